-- Document 02, ticket 14, "A season's figures": what a list of answers for one condition comes to. Assumes nothing.
use Rattle.std.specs.Prelude.{Bool, not, cond, ◌||◌, List, [], ◌∷◌, map, ℕ, ◌+◌, ◌-◌, ◌/◌, ◌%◌, min, max, eqb, ltb, ℤ, pos, ◌-ℤ◌, nat_abs, length}
use Rattle.std.proofs.Math.Option.{Option, none, some}
use Rattle.fixpoint.specs.Interval.{Interval}
use Rattle.semantics.specs.Call.{Cause, cause, first_of}
use Rattle.semantics.specs.ReadPage.{Fault, placed, or_else, outside, leftmost}

-- "answers for one condition, as pairs of low and high"; of an odd count of numbers the last makes no pair
unfoldable pub pairs_in : List ℕ → List Interval
pairs_in [] = []
pairs_in (l ∷ []) = []
pairs_in (l ∷ h ∷ s) = record { low = l; high = h } ∷ pairs_in s

abbrev pub lows_of : List Interval → List ℕ
lows_of ps = map (λ (p : Interval). p.low) ps

abbrev pub highs_of : List Interval → List ℕ
highs_of ps = map (λ (p : Interval). p.high) ps

-- "high minus low"
abbrev pub widths_of : List Interval → List ℕ
widths_of ps = map (λ (p : Interval). p.high - p.low) ps

unfoldable pub total : List ℕ → ℕ
total [] = 0
total (x ∷ xs) = x + total xs

-- the smallest of some numbers, and the largest; there is at least one (`lowest_is`, `highest_is`)
unfoldable pub lowest : List ℕ → ℕ
lowest [] = 0
lowest (x ∷ []) = x
lowest (x ∷ y ∷ xs) = min x (lowest (y ∷ xs))

unfoldable pub highest : List ℕ → ℕ
highest [] = 0
highest (x ∷ xs) = max x (highest xs)

-- "the change of low from one answer to the next", "falls being negative"
unfoldable pub low_changes : List ℕ → List ℤ
low_changes [] = []
low_changes (x ∷ []) = []
low_changes (x ∷ y ∷ xs) = (pos y -ℤ pos x) ∷ low_changes (y ∷ xs)

-- of two changes the one "greatest in size", and the earlier one of two of one size
abbrev pub larger : ℤ → ℤ → ℤ
larger earlier later = cond (ltb (nat_abs earlier) (nat_abs later)) later earlier

-- "greatest in size, .. the earliest if several, 0 if there is one answer": `greatest_earliest`
unfoldable pub greatest_change : List ℤ → ℤ
greatest_change [] = pos 0
greatest_change (z ∷ zs) = larger z (greatest_change zs)

pub record Figures : Type 0 where
  pub count : ℕ
  pub sum_low : ℕ
  pub sum_width : ℕ
  pub smallest : ℕ
  pub largest : ℕ
  pub mean : ℕ
  pub remainder : ℕ
  pub change : ℤ

-- "the count, the sum of lows, the sum of widths, the smallest low, the largest high, the mean low as whole part and remainder, and the
-- change of low .. that is greatest in size"
unfoldable pub figures_of : List Interval → Figures
figures_of ps =
    record {
      count = length ps;
      sum_low = total (lows_of ps);
      sum_width = total (widths_of ps);
      smallest = lowest (lows_of ps);
      largest = highest (highs_of ps);
      mean = total (lows_of ps) / length ps;
      remainder = total (lows_of ps) % length ps;
      change = greatest_change (low_changes (lows_of ps));
    }

-- "80, a list of wrong length or odd count of numbers": "1 to 4,096 answers"
abbrev pub list_causes : List ℕ → List Cause
list_causes s = cause (not (eqb (length s % 2) 0) || outside 1 4096 (length (pairs_in s))) 80 ∷ []

-- "81, a pair with low above high or high over 200"
abbrev pub bad_pair : Interval → Bool
bad_pair p = ltb p.high p.low || ltb 200 p.high

abbrev pub pair_causes : Interval → List Cause
pair_causes p = cause (bad_pair p) 81 ∷ []

-- "with the place of the first such pair, counted from 1; in that order"; 80 has no place
unfoldable pub season_refusal : List ℕ → Option Fault
season_refusal s = or_else (placed 0 (first_of (list_causes s))) (leftmost 1 (map pair_causes (pairs_in s)))

pub data SeasonAnswer : Type 0 where
  refused_season : (number place : ℕ) → SeasonAnswer
  season : Figures → SeasonAnswer

abbrev pub season_as : Option Fault → List Interval → SeasonAnswer
season_as (some f) ps = refused_season f.number f.place
season_as none ps = season (figures_of ps)

unfoldable pub season_of : List ℕ → SeasonAnswer
season_of s = season_as (season_refusal s) (pairs_in s)
