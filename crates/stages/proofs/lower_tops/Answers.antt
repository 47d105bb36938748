-- `lower_tops` lowers one condition that is looked at after the other (`Lowering`).
use Rattle.stages.proofs.Lowering.{lowering_next, lowering_less, lowering_last}
use Rattle.stages.proofs.lower_tops.Goals as goal

pub loop-c-smaller : goal.loop-c-smaller
loop-c-smaller c = lowering_less c.loop-c.invariant.1 c.in-Some.ensures _ c.remove.ensures c.lower_top-fell.ensures

pub loop-c-preserved : goal.loop-c-preserved
loop-c-preserved c = (c.in-Some.ensures.within, lowering_next c.loop-c.invariant.1 c.in-Some.ensures _ c.remove.ensures c.lower_top-fell.ensures)

pub returns : goal.returns
returns c = lowering_last c.loop-c.invariant.1 c.in_default.ensures
