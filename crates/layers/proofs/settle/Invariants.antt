-- `layers::settle` meets its contract: each pass but the last raises a layer, and C passes are enough. Assumes nothing.
use Rattle.semantics.specs.Area.{page_of}
use Rattle.semantics.proofs.Proper.{Proper}
use Rattle.layers.proofs.Settling.{Settling}
use Rattle.layers.proofs.settle.Given as goal

abbrev pub invariant-loop : goal.invariant-loop
invariant-loop l = (w : Proper (page_of l.page)) × Settling (page_of l.page) w l.layers l.counter
