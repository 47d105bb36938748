-- `sweep` raises the ends of the heads line by line, in page order (`Sweeping`).
use mathlib.Core.Bool.{or-true, or-false}
use Rattle.page.proofs.Steps.{stepped}
use Rattle.settle.proofs.Looking.{sweeping_next}
use Rattle.settle.proofs.Figures.sweep.Goals as goal

pub loop-at-preserved-then-raise : goal.loop-at-preserved-then-raise
loop-at-preserved-then-raise c =
    let s = stepped c.loop-at.invariant.0 c.in-Some.ensures.steps in
    let n = sweeping_next c.loop-at.invariant.1 s.more s.next (rw s.here at c.raise.ensures.raised) in
    (s.same, rw (c.if-raise.true, or-true) at n)

pub loop-at-preserved : goal.loop-at-preserved
loop-at-preserved c =
    let s = stepped c.loop-at.invariant.0 c.in-Some.ensures.steps in
    let n = sweeping_next c.loop-at.invariant.1 s.more s.next (rw s.here at c.raise.ensures.raised) in
    (s.same, rw (c.if-raise.false, or-false) at n)
