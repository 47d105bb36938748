-- `sweep` looks at one line after the other (`Sweeping`).
use Rattle.page.proofs.Steps.{stepped, passed_all}
use Rattle.unknowns.proofs.Sweeping.{sweeping_next, sweeping_last}
use Rattle.unknowns.proofs.sweep.Goals as goal

pub loop-at-preserved : goal.loop-at-preserved
loop-at-preserved c =
    let s = stepped c.loop-at.invariant.0 c.in-Some.ensures.steps in
    (s.same, sweeping_next _ _ _ _ c.loop-at.invariant.1 s.more s.next (rw s.here at c.look.ensures))

pub returns : goal.returns
returns c = sweeping_last _ _ _ _ c.loop-at.invariant.1 (passed_all c.loop-at.invariant.0 c.in-None.ensures.steps)
