-- `lower_free` lowers one free condition after the other (`Freeing`).
use native.Mathlib.Omega.{arith}
use Rattle.stages.proofs.Freeing.{freeing_next}
use Rattle.stages.proofs.lower_free.Goals as goal

pub loop-c-preserved : goal.loop-c-preserved
loop-c-preserved c = freeing_next c.loop-c.invariant (rw (← c.source.view_is) (omega (arith, c.conditions-c-end.ensures.value))) c.lower_free_top-fell.ensures
