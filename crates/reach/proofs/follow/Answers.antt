-- `follow` meets its contract.
use Rattle.reach.proofs.Visiting.{followed}
use Rattle.reach.proofs.follow.Goals as goal

pub returns : goal.returns
returns c =
    followed c.args.page.now c.recall.ensures c.args.c _ _ c.empty-named.ensures c.insert_named-edges.ensures c.absorb.ensures
