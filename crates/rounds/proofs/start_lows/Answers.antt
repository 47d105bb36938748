-- `start_lows` negates one condition after the other (`StartingLows`).
use native.Mathlib.Omega.{arith}
use Rattle.index.proofs.Lookup.{area_is}
use Rattle.rounds.proofs.Starting.{lows_next}
use Rattle.rounds.proofs.start_lows.Goals as goal

pub loop-c-preserved : goal.loop-c-preserved
loop-c-preserved c = let e = rw (area_is c.source.view_is) at c.conditions-c-end.ensures.value in lows_next _ _ _ _ c.loop-c.invariant (omega (arith, e)) c.negate.ensures
