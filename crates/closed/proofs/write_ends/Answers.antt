-- `write_ends` stores both ends of one query after the other (`Answering`).
use mathlib.Core.Path.{refl}
use native.Mathlib.Omega.{arith}
use Rattle.closed.proofs.Answering.{answering_next}
use Rattle.closed.proofs.write_ends.Goals as goal

pub loop-i-preserved : goal.loop-i-preserved
loop-i-preserved c = answering_next _ _ _ c.loop-i.invariant (omega arith) refl
