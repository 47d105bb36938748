-- What marking one dependant leaves in a run area. Assumes nothing.
use Rattle.std.specs.Prelude.{cond, List, ℕ, ◌+◌, ◌*◌, leb, set}
use Rattle.semantics.specs.RunArea.{mark_at}

-- a run area in which h waits if it is reached
abbrev pub marked : ℕ → List ℕ → List ℕ
marked h run = cond (leb 1 (mark_at run h)) (set run (3 * h + 2) 2) run
