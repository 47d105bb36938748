-- What is held beside the areas while evaluations are taken: a table of the low end of every literal, and the set of the conditions that wait.
-- Assumes nothing.
use Rattle.std.specs.Prelude.{◌≡◌, Bool, List, ℕ, ◌+◌, ◌*◌, ◌-◌, ◌≤◌, length, set}
use Rattle.semantics.specs.Area.{page_of, top_of, conditions_of}
use Rattle.semantics.specs.Grade.{lower}
use Rattle.semantics.specs.RunArea.{interval_at}
use Rattle.value.specs.Table.{EndTable}
use Rattle.worklist.specs.Cells.{DependantsMarked}
use Rattle.worklist.specs.Evaluation.{stored, Evaluated}
use Rattle.worklist.specs.Waiting.{StillMatches}

-- the table holds the intervals of the run area
pub record Beside (a run values : List ℕ) : Type 0 where
  pub long : 2 * conditions_of a ≤ length values
  pub table : EndTable lower (top_of a) (conditions_of a) (interval_at run) values

-- c holds [l; h] and waits no longer, its dependants wait, and the table follows; a set that matches without c still matches
pub record Changed (a : List ℕ) (c l h : ℕ) (run words values run' words' values' : List ℕ) : Type 0 where
  pub marked : DependantsMarked (page_of a) c (stored c l h 1 run) run'
  pub set_kept : StillMatches (conditions_of a) (stored c l h 1 run) words run' words'
  pub table : values' ≡ set (set values (2 * c) l) (2 * c + 1) (top_of a - h)

-- an evaluation of c, and all beside the area follows
pub record EvaluatedBeside (a : List ℕ) (c : ℕ) (run words run' words' values' : List ℕ) (changed : Bool) : Type 0 where
  pub evaluated : Evaluated (page_of a) c run run' changed
  pub beside : Beside a run' values'
  pub set_kept : StillMatches (conditions_of a) run words run' words'
