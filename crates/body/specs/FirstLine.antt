-- The first line of a condition with a low end, over a table of the low ends of literals. Assumes nothing.
use Rattle.std.specs.Prelude.{◌≡◌, List, ℕ}
use Rattle.fixpoint.specs.Interval.{Assign}
use Rattle.semantics.specs.Area.{page_of, top_of, conditions_of}
use Rattle.semantics.specs.Grade.{lower}
use Rattle.semantics.specs.Holding.{first_with}
use Rattle.value.specs.Table.{EndTable}

-- r is the number of the first F or R line of c with this low end, at every assignment that the table holds; 0 if there is none
pub record FirstLine (a values : List ℕ) (c low r : ℕ) : Type 0 where
  pub is : (I : Assign) → EndTable lower (top_of a) (conditions_of a) I values → r ≡ first_with (top_of a) I c low 2 (page_of a).lines
