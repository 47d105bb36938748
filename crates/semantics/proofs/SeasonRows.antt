-- Worked rows of a season's figures: one list, one claim (`season_bench`). Assumes nothing.
use mathlib.Core.Path.{◌≡◌, refl}
use mathlib.Core.List.{List, [], ◌∷◌, ◌++◌, map}
use Prim.Native.Nat.{ℕ}
use lib.IntN.{pos, negsuc}
use lib.ListN.{replicate}
use Rattle.semantics.specs.ReadPage.{leftmost}
use Rattle.semantics.specs.Season.{pairs_in, total, lowest, highest, low_changes, greatest_change, figures_of, season_refusal, SeasonAnswer, refused_season, season, season_of}

-- a list of numbers, and what it answers
pub record SeasonRow : Type 0 where
  pub pairs : List ℕ
  pub answer : SeasonAnswer

abbrev answers : List ℕ → SeasonAnswer → SeasonRow
answers s a = record { pairs = s; answer = a }

abbrev pub SeasonsHold : List SeasonRow → Type 0
SeasonsHold rows = map (λ (r : SeasonRow). season_of r.pairs) rows ≡ map (λ (r : SeasonRow). r.answer) rows

-- n numbers 200
abbrev full : ℕ → List ℕ
full n = replicate n 200

unfoldable pub season_rows : List SeasonRow
season_rows =
    -- one answer: no change
    answers (3 ∷ 7 ∷ []) (season (record { count = 1; sum_low = 3; sum_width = 4; smallest = 3; largest = 7; mean = 3; remainder = 0; change = pos 0 }))
    ∷ answers (0 ∷ 0 ∷ []) (season (record { count = 1; sum_low = 0; sum_width = 0; smallest = 0; largest = 0; mean = 0; remainder = 0; change = pos 0 }))
    -- a fall of 3 and then a rise of 3: the fall; the other way round: the rise
    ∷ answers (5 ∷ 9 ∷ 2 ∷ 2 ∷ 5 ∷ 6 ∷ []) (season (record { count = 3; sum_low = 12; sum_width = 5; smallest = 2; largest = 9; mean = 4; remainder = 0; change = negsuc 2 }))
    ∷ answers (2 ∷ 9 ∷ 5 ∷ 5 ∷ 2 ∷ 6 ∷ []) (season (record { count = 3; sum_low = 9; sum_width = 11; smallest = 2; largest = 9; mean = 3; remainder = 0; change = pos 3 }))
    -- a rise of 3, a fall of 4, a rise of 4: a later change that is greater, the earlier of two of one size
    ∷ answers (2 ∷ 2 ∷ 5 ∷ 8 ∷ 1 ∷ 1 ∷ 5 ∷ 5 ∷ []) (season (record { count = 4; sum_low = 13; sum_width = 3; smallest = 1; largest = 8; mean = 3; remainder = 1; change = negsuc 3 }))
    -- the smallest low and the largest high in the middle, equal answers
    ∷ answers (10 ∷ 10 ∷ 0 ∷ 200 ∷ 10 ∷ 11 ∷ []) (season (record { count = 3; sum_low = 20; sum_width = 201; smallest = 0; largest = 200; mean = 6; remainder = 2; change = negsuc 9 }))
    ∷ answers (4 ∷ 4 ∷ 4 ∷ 4 ∷ []) (season (record { count = 2; sum_low = 8; sum_width = 0; smallest = 4; largest = 4; mean = 4; remainder = 0; change = pos 0 }))
    -- the greatest change there is, both ways
    ∷ answers (0 ∷ 200 ∷ 200 ∷ 200 ∷ []) (season (record { count = 2; sum_low = 200; sum_width = 200; smallest = 0; largest = 200; mean = 100; remainder = 0; change = pos 200 }))
    ∷ answers (200 ∷ 200 ∷ 0 ∷ 200 ∷ []) (season (record { count = 2; sum_low = 200; sum_width = 200; smallest = 0; largest = 200; mean = 100; remainder = 0; change = negsuc 199 }))
    -- 4,096 answers [200;200], and one more
    ∷ answers (full 8192) (season (record { count = 4096; sum_low = 819200; sum_width = 0; smallest = 200; largest = 200; mean = 200; remainder = 0; change = pos 0 }))
    ∷ answers (full 8194) (refused_season 80 0)
    -- no answer, and an odd count of numbers
    ∷ answers [] (refused_season 80 0)
    ∷ answers (3 ∷ []) (refused_season 80 0)
    ∷ answers (3 ∷ 7 ∷ 4 ∷ []) (refused_season 80 0)
    ∷ answers (full 8191) (refused_season 80 0)
    -- low above high, high over 200; the first such pair, counted from 1
    ∷ answers (8 ∷ 7 ∷ []) (refused_season 81 1)
    ∷ answers (7 ∷ 7 ∷ []) (season (record { count = 1; sum_low = 7; sum_width = 0; smallest = 7; largest = 7; mean = 7; remainder = 0; change = pos 0 }))
    ∷ answers (0 ∷ 201 ∷ []) (refused_season 81 1)
    ∷ answers (0 ∷ 200 ∷ []) (season (record { count = 1; sum_low = 0; sum_width = 200; smallest = 0; largest = 200; mean = 0; remainder = 0; change = pos 0 }))
    ∷ answers (1 ∷ 2 ∷ 3 ∷ 2 ∷ 0 ∷ 201 ∷ []) (refused_season 81 2)
    ∷ answers (1 ∷ 2 ∷ 2 ∷ 3 ∷ 201 ∷ 201 ∷ 4 ∷ 3 ∷ []) (refused_season 81 3)
    ∷ answers (full 8190 ++ (200 ∷ 199 ∷ [])) (refused_season 81 4096)
    -- the order of the causes: a bad pair in a list of wrong length
    ∷ answers (8 ∷ 7 ∷ 4 ∷ []) (refused_season 80 0)
    ∷ answers (8 ∷ 7 ∷ full 8192) (refused_season 80 0)
    ∷ []

pub season_bench : SeasonsHold season_rows
unfolding season_rows pairs_in total lowest highest low_changes greatest_change figures_of season_refusal season_of leftmost
season_bench = refl
