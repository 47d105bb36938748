-- Worked rows on raw areas: two runs of the page of row 1, query 0, each 4 evaluations from its rest when opened. One list, one claim
-- (`stall_bench`). Assumes nothing.
use mathlib.Core.Path.{◌≡◌}
use mathlib.Core.List.{List, [], ◌∷◌, ◌++◌}
use Prim.Native.Nat.{ℕ}
use Rattle.semantics.specs.Worklist.{Status, rest, spent}
use Rattle.semantics.specs.Call.{Answer, refused, changed}
use Rattle.semantics.specs.Operation.{Opening, refused_opening, opened_with}
use Rattle.semantics.proofs.AreaRows.{area1, area_no_kind, spoilt1, nines}
use Rattle.semantics.specs.Stalls.{Stall, first, second, open_stall, evaluate_stall, Told, TurnAnswer, refused_turn, turned, turn_of}

pub data StallRow : Type 0 where
  turns_on : (page shared : List ℕ) (allowance : ℕ) → TurnAnswer → (left : List ℕ) → StallRow
  opens_on : (page : List ℕ) → Stall → (queries shared : List ℕ) → Opening → (left : List ℕ) → StallRow
  evaluates_on : (page : List ℕ) → Stall → (shared : List ℕ) (condition : ℕ) → Answer → (left : List ℕ) → StallRow

abbrev pub StallHolds : StallRow → Type 0
StallHolds (turns_on a d b o left) = ((turn_of a d b).answer ≡ o) × ((turn_of a d b).area ≡ left)
StallHolds (opens_on a s qs d o left) = ((open_stall a s qs d).answer ≡ o) × ((open_stall a s qs d).run ≡ left)
StallHolds (evaluates_on a s d c o left) = ((evaluate_stall a s d c).answer ≡ o) × ((evaluate_stall a s d c).run ≡ left)

abbrev pub StallsHold : List StallRow → Type 0
StallsHold [] = Unit {0}
StallsHold (r ∷ rs) = StallHolds r × StallsHold rs

-- a run after 0 to 4 evaluations
unfoldable pub after0 : List ℕ
after0 = 0 ∷ 10 ∷ 2 ∷ 0 ∷ 10 ∷ 2 ∷ []

unfoldable pub after1 : List ℕ
after1 = 2 ∷ 10 ∷ 1 ∷ 0 ∷ 10 ∷ 2 ∷ []

unfoldable pub after2 : List ℕ
after2 = 2 ∷ 10 ∷ 2 ∷ 3 ∷ 8 ∷ 1 ∷ []

unfoldable pub after3 : List ℕ
after3 = 2 ∷ 7 ∷ 1 ∷ 3 ∷ 8 ∷ 2 ∷ []

unfoldable pub after4 : List ℕ
after4 = 2 ∷ 7 ∷ 1 ∷ 3 ∷ 8 ∷ 1 ∷ []

-- two runs, and one number past them
abbrev pub both : List ℕ → List ℕ → List ℕ
both p q = p ++ (q ++ (9 ∷ []))

abbrev pub tell : ℕ → Status → Told
tell k x = record { count = k; rests = x }

unfoldable pub stall_rows : List StallRow
stall_rows =
    turns_on area1 (both after0 after0) 0 (turned (tell 0 spent) (tell 0 spent)) (both after0 after0)
    ∷ turns_on area1 (both after0 after0) 3 (turned (tell 2 spent) (tell 1 spent)) (both after2 after1)
    ∷ turns_on area1 (both after0 after0) 7 (turned (tell 4 rest) (tell 3 spent)) (both after4 after3)
    ∷ turns_on area1 (both after0 after0) 4294967295 (turned (tell 4 rest) (tell 4 rest)) (both after4 after4)
    ∷ turns_on area1 (both after3 after0) 4 (turned (tell 1 rest) (tell 3 spent)) (both after4 after3)
    ∷ turns_on area1 (both after0 after3) 4 (turned (tell 3 spent) (tell 1 rest)) (both after3 after4)
    ∷ turns_on area1 (both after4 after0) 3 (turned (tell 0 rest) (tell 3 spent)) (both after4 after3)
    ∷ turns_on area1 (both after0 after4) 3 (turned (tell 3 spent) (tell 0 rest)) (both after3 after4)
    ∷ turns_on area_no_kind (both after0 []) 3 (refused_turn 10 0) (both after0 [])
    ∷ turns_on area1 (after0 ++ (9 ∷ 9 ∷ 9 ∷ 9 ∷ 9 ∷ [])) 3 (refused_turn 60 0) (after0 ++ (9 ∷ 9 ∷ 9 ∷ 9 ∷ 9 ∷ []))
    ∷ turns_on area1 (both spoilt1 spoilt1) 3 (refused_turn 14 1) (both spoilt1 spoilt1)
    ∷ turns_on area1 (both after0 spoilt1) 3 (refused_turn 14 2) (both after0 spoilt1)
    ∷ opens_on area1 first (0 ∷ []) (both spoilt1 spoilt1) (opened_with 2 2 22 2) (both after0 spoilt1)
    ∷ opens_on area1 second (0 ∷ []) (both spoilt1 spoilt1) (opened_with 2 2 22 2) (both spoilt1 after0)
    ∷ opens_on area_no_kind second [] nines (refused_opening 10) nines
    ∷ opens_on area1 second [] nines (refused_opening 60) nines
    ∷ opens_on area1 second [] (both after0 after0) (refused_opening 11) (both after0 after0)
    ∷ opens_on area1 second (2 ∷ []) (both after0 after0) (refused_opening 12) (both after0 after0)
    ∷ evaluates_on area1 second (both spoilt1 after0) 0 (changed 2) (both spoilt1 after1)
    ∷ evaluates_on area_no_kind second nines 0 (refused 10) nines
    ∷ evaluates_on area1 first (after0 ++ (9 ∷ [])) 0 (refused 60) (after0 ++ (9 ∷ []))
    ∷ evaluates_on area1 second (both after0 spoilt1) 2 (refused 14) (both after0 spoilt1)
    ∷ evaluates_on area1 second (both spoilt1 after0) 2 (refused 15) (both spoilt1 after0)
    ∷ evaluates_on area1 second (both after0 after1) 0 (refused 16) (both after0 after1)
    ∷ []
