-- `take_highs` lowers the free conditions, and lets their negations follow (`highs_taken`).
use Rattle.stages.proofs.Freeing.{highs_taken}
use Rattle.stages.proofs.take_highs.Goals as goal

pub returns : goal.returns
returns c = highs_taken c.requires.0 c.lower_free-fell.ensures c.follow.ensures.0 c.follow.ensures.1
