-- `layers::work` meets its contract: the layers are copied, or the search finds a loop. Assumes nothing.
use Rattle.print.proofs.Writing.{wrote_front}
use Rattle.layers.proofs.Checking.{worked_layers}
use Rattle.layers.proofs.work.Goals as goal

pub returns-then-settle : goal.returns-then-settle
returns-then-settle c = worked_layers _ c.settle.new.layers c.settle.ensures.size (c.settle.ensures.layered c.if-settle.true) (wrote_front c.put_all.ensures)
