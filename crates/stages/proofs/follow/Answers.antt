-- `follow` negates one lowered condition after the other (`Following`).
use Rattle.stages.proofs.Following.{following_next, following_last}
use Rattle.stages.proofs.follow.Goals as goal

pub loop-c-preserved : goal.loop-c-preserved
loop-c-preserved c = following_next c.loop-c.invariant c.in-Some.ensures.steps.0.0 _ c.in-Some.ensures.steps.0.1 c.negate.ensures

pub returns : goal.returns
returns c = following_last c.loop-c.invariant c.in-None.ensures.steps.0.0
