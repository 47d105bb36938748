-- `worklist::wake_by_scan` meets its contract. The loop's invariant: what the lines still to come make of the area now is what all lines make of the area at entry, and the set follows the marks. Assumes nothing.
use Rattle.page.proofs.Steps.{stepped, passed_all}
use Rattle.worklist.proofs.Matching.{still_same, still_then}
use Rattle.worklist.proofs.Marking.{marking_first, marking_next, marking_last}
use Rattle.worklist.proofs.wake_by_scan.Goals as goal

pub loop-at-init : goal.loop-at-init
loop-at-init c =
    let b = c.lines-at-items.ensures in
    rw c.into_iter-at-iterator.ensures.into_iter_gives (b.scan.same, marking_first _ _ _ b.sound c.requires (b.scan.place, b.scan.count), still_same _ _ _)

pub loop-at-preserved : goal.loop-at-preserved
loop-at-preserved c =
    let h = c.loop-at.invariant.1 in
    let s = stepped c.loop-at.invariant.0 c.in-Some.ensures.steps in
    let w = rw s.here at c.wake_head.ensures in
    (s.same, marking_next _ _ _ h s.more w.marks s.next, still_then c.loop-at.invariant.2 w.set)

pub returns : goal.returns
returns c = (marking_last _ _ _ c.loop-at.invariant.1 (passed_all c.loop-at.invariant.0 c.in-None.ensures.steps), c.loop-at.invariant.2)
