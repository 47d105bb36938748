-- `ends::fold_ends` meets its contract (`FoldingBoth`). Assumes nothing.
use Rattle.ends.proofs.Both.{both_next}
use Rattle.ends.proofs.fold_ends.Goals as goal

pub loop-code-preserved : goal.loop-code-preserved
loop-code-preserved c = both_next _ _ _ _ _ _ c.loop-code.invariant c.loop-code-test.true c.combine-low.ensures c.high_of.ensures c.combine-high.ensures
