-- `wake` meets its contract.
use Rattle.page.proofs.Steps.{stepped, passed_all}
use Rattle.picks.proofs.Waking.{waking_first, waking_next, waking_last}
use Rattle.picks.proofs.wake.Goals as goal

pub loop-at-init : goal.loop-at-init
loop-at-init c =
    let b = c.lines-at-items.ensures in
    rw c.into_iter-at-iterator.ensures.into_iter_gives (b.scan.same, waking_first _ _ _ _ b.sound (b.scan.place, b.scan.count))

pub loop-at-preserved : goal.loop-at-preserved
loop-at-preserved c =
    let s = stepped c.loop-at.invariant.0 c.in-Some.ensures.steps in
    (s.same, waking_next _ _ _ _ c.loop-at.invariant.1 s.more s.next (rw s.here at c.wake_head.ensures))

pub returns : goal.returns
returns c = waking_last _ _ _ _ c.loop-at.invariant.1 (passed_all c.loop-at.invariant.0 c.in-None.ensures.steps)
