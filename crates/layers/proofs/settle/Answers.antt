-- `layers::settle` meets its contract: each pass but the last raises a layer, and C passes are enough. Assumes nothing.
use native.Mathlib.Omega.{arith}
use Rattle.semantics.specs.Area.{page_of}
use Rattle.page.proofs.Solvable.{solvable_proper}
use Rattle.layers.proofs.Settling.{settling_first, settled_high, settling_next}
use Rattle.layers.proofs.settle.Goals as goal

pub loop-init : goal.loop-init
unfolding page_of
loop-init c = let w = solvable_proper c.args.page.now c.conditions-n.ensures.sound in (w, settling_first (page_of c.args.page.now) w c.requires.0 c.requires.1)

pub returns-in-Some : goal.returns-in-Some
unfolding page_of
returns-in-Some c = settled_high _ _ c.loop.invariant.1 c.in-Some.ensures (omega (arith, c.conditions-n.ensures.value))

pub loop-preserved : goal.loop-preserved
unfolding page_of
loop-preserved c = let h = c.loop.invariant in (h.0, settling_next _ _ h.1 c.in-Some.ensures (omega arith) (omega arith))
