-- What an evaluation leaves in a run area. Assumes nothing.
use Rattle.std.specs.Prelude.{◌≡◌, Bool, true, List, ◌++◌, ℕ, ◌+◌, ◌*◌, set, drop}
use Rattle.semantics.specs.Page.{Page}
use Rattle.semantics.specs.RunArea.{run_of, worklist_of, reached_of, run_sound}
use Rattle.semantics.specs.Worklist.{changes, evaluated}

-- a run area in which the cell of c is low, high, mark
unfoldable pub stored : (c low high mark : ℕ) → List ℕ → List ℕ
stored c low high mark run = set (set (set run (3 * c) low) (3 * c + 1) high) (3 * c + 2) mark

-- Evaluate, without its refusals: the answer, and the area of the state that the evaluation of c makes of the state held
pub record Evaluated (page : Page) (c : ℕ) (run run' : List ℕ) (changed : Bool) : Type 0 where
  pub answer : changed ≡ changes page (worklist_of page run) c
  pub area : run' ≡ run_of page (reached_of page run) (evaluated page (reached_of page run) (worklist_of page run) c) ++ drop (3 * page.conditions) run
  pub run_sound : run_sound page run' ≡ true
