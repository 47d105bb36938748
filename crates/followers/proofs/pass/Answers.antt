-- `followers::pass` meets its contract: the lines behind are followed. Assumes nothing.
use native.Mathlib.Omega.{arith}
use Rattle.page.proofs.Steps.{stepped, passed_all}
use Rattle.followers.proofs.Passing.{passing_first, passing_next, passing_last, passing_few, line_few}
use Rattle.followers.proofs.pass.Goals as goal

pub loop-at-init : goal.loop-at-init
loop-at-init c =
    let b = c.lines-at-items.ensures.scan in
    rw c.into_iter-at-iterator.ensures.into_iter_gives (b.same, passing_first c.args.page.now _ _ c.lines-at-items.ensures.sound c.requires (b.place, b.count))

pub overflow_add-new : goal.overflow_add-new
overflow_add-new c = omega (arith, passing_few _ _ _ c.loop-at.invariant.1, line_few c.follow_line-new.ensures)

pub loop-at-preserved : goal.loop-at-preserved
loop-at-preserved c =
    let s = stepped c.loop-at.invariant.0 c.in-Some.ensures.steps in
    (s.same, passing_next c.args.page.now _ _ s.next s.more c.loop-at.invariant.1 (rw s.here at c.follow_line-new.ensures))

pub returns : goal.returns
returns c = passing_last c.args.page.now _ _ c.loop-at.invariant.1 (passed_all c.loop-at.invariant.0 c.in-None.ensures.steps)
