-- What a table of the low end of every literal holds, and figures that are compared with it. Assumes nothing.
use Rattle.std.specs.Prelude.{◌≡◌, ◌≢◌, Bool, true, false, List, ℕ, ◌+◌, ◌*◌, ◌-◌, get_or}
use Rattle.fixpoint.specs.Interval.{Assign}
use Rattle.semantics.specs.Operation.{ends}

-- the intervals that the table stands for: the high end is top less the low end of the negation
abbrev pub table_at : ℕ → List ℕ → Assign
table_at top values c = record { low = get_or values (2 * c) 0; high = top - get_or values (2 * c + 1) 0 }

-- r tells whether the figures are low, high of each query, in list order
pub record Compared (top : ℕ) (qs figures values : List ℕ) (r : Bool) : Type 0 where
  pub equal : r ≡ true → figures ≡ ends (table_at top values) qs
  pub differ : r ≡ false → figures ≢ ends (table_at top values) qs
