-- `take_all` takes over one condition that moved after the other (`Taking`).
use Rattle.stages.proofs.Taking.{taking_next, taking_last}
use Rattle.stages.proofs.take_all.Goals as goal

pub loop-c-preserved : goal.loop-c-preserved
loop-c-preserved c = taking_next c.loop-c.invariant c.in-Some.ensures.steps.0.0 _ c.in-Some.ensures.steps.0.1 c.take_over.ensures

pub returns : goal.returns
returns c = taking_last c.loop-c.invariant c.in-None.ensures.steps.0.0
