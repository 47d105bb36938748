-- `worklist::waiting_set` meets its contract. Assumes nothing.
use native.Mathlib.Omega.{arith}
use Rattle.worklist.proofs.Digits.{filled_next}
use Rattle.worklist.proofs.waiting_set.Goals as goal

pub loop-w-preserved : goal.loop-w-preserved
loop-w-preserved c = filled_next c.loop-w.invariant (omega arith) c.min-from.ensures c.min.ensures c.waiting_digits.ensures
