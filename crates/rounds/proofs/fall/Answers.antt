-- `fall` lowers one condition after the other (`Falling`).
use native.Mathlib.Omega.{arith}
use Rattle.index.proofs.Lookup.{area_is}
use Rattle.rounds.proofs.Falling.{falling_next}
use Rattle.rounds.proofs.fall.Goals as goal

pub loop-c-preserved : goal.loop-c-preserved
loop-c-preserved c = let e = rw (area_is c.source.view_is) at c.conditions-c-end.ensures.value in falling_next _ _ _ _ _ _ c.loop-c.invariant (omega (arith, e)) c.lower_free-fell.ensures
