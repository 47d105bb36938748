-- Sums and extremes of some answers, and with one answer more. Assumes nothing.
use Rattle.std.specs.Prelude.{List, [], ◌∷◌, ℕ, ◌+◌, ◌-◌, ◌*◌, ◌≤◌, min, max, pos, ◌-ℤ◌, nat_abs}
use Rattle.fixpoint.specs.Interval.{Interval}
use Rattle.semantics.specs.Season.{lows_of, highs_of, widths_of, total, lowest, highest, low_changes, larger, greatest_change}
use Rattle.season.specs.declared.Sums.{Sums}

-- of all answers of a list
abbrev pub sums_of : List Interval → Sums
sums_of ps =
    record {
      lows = total (lows_of ps);
      widths = total (widths_of ps);
      smallest = lowest (lows_of ps);
      largest = highest (highs_of ps);
      change = greatest_change (low_changes (lows_of ps));
    }

-- of the first answer
abbrev pub begun : Interval → Sums
begun p = record { lows = p.low; widths = p.high - p.low; smallest = p.low; largest = p.high; change = pos 0 }

-- with one answer more, where the low end before it is x
abbrev pub grown : Sums → ℕ → Interval → Sums
grown s x p =
    record {
      lows = s.lows + p.low;
      widths = s.widths + (p.high - p.low);
      smallest = min s.smallest p.low;
      largest = max s.largest p.high;
      change = larger s.change (pos p.low -ℤ pos x);
    }

-- with all answers of a list more
unfoldable pub grown_by : Sums → ℕ → List Interval → Sums
grown_by s x [] = s
grown_by s x (p ∷ ps) = grown_by (grown s x p) p.low ps

-- sums of at most n answers
pub record Small (n : ℕ) (s : Sums) : Type 0 where
  pub lows_most : s.lows ≤ 200 * n
  pub widths_most : s.widths ≤ 200 * n
  pub change_most : nat_abs s.change ≤ 200
