-- `layers::lowest_loop` meets its contract: the conditions below c are done. Assumes nothing.
use mathlib.Core.Logic.{inl}
use native.Mathlib.Omega.{arith}
use Rattle.semantics.specs.Area.{page_of}
use Rattle.page.proofs.Solvable.{solvable_proper}
use Rattle.layers.proofs.Paths.{open_begun, loop_found}
use Rattle.layers.proofs.lowest_loop.Goals as goal

pub loop-c-init : goal.loop-c-init
unfolding page_of
loop-c-init c = (open_begun (page_of c.args.page.now) (solvable_proper c.args.page.now c.conditions-n.ensures.sound) c.begin.ensures, λ i l. absurd (omega arith))

pub returns-after-loop-c : goal.returns-after-loop-c
unfolding page_of
returns-after-loop-c c = let h = c.loop-c.invariant in loop_found (page_of c.args.page.now) (solvable_proper c.args.page.now c.conditions-n.ensures.sound) _ h.0 h.1 (inl (omega arith))
