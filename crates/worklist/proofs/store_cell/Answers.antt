-- `worklist::store_cell` meets its contract. Assumes nothing.
use mathlib.Core.Path.{refl}
use Rattle.worklist.specs.Evaluation.{stored}
use Rattle.worklist.proofs.store_cell.Goals as goal

pub returns : goal.returns
unfolding stored
returns c = refl
