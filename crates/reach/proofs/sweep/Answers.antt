-- `sweep` meets its contract.
use native.Mathlib.Omega.{arith}
use Rattle.page.proofs.Steps.{stepped, passed_all}
use Rattle.reach.proofs.Inserting.{inserts_few}
use Rattle.reach.proofs.Sweeping.{sweeping_first, sweeping_next, sweeping_skip, sweeping_last, sweeping_few}
use Rattle.reach.proofs.sweep.Goals as goal

pub loop-at-init : goal.loop-at-init
loop-at-init c =
    let b = c.lines-at-items.ensures in
    rw c.into_iter-at-iterator.ensures.into_iter_gives (b.scan.same, sweeping_first _ _ b.sound (b.scan.place, b.scan.count))

pub overflow_add-new : goal.overflow_add-new
overflow_add-new c = omega (arith, sweeping_few _ _ c.loop-at.invariant.1, inserts_few c.insert_line-new.ensures)

pub loop-at-preserved-then-marks-condition : goal.loop-at-preserved-then-marks-condition
loop-at-preserved-then-marks-condition c =
    let s = stepped c.loop-at.invariant.0 c.in-Some.ensures.steps in
    let h = rw c.condition.ensures.value at c.if-marks-condition.true in
    (s.same, sweeping_next _ _ c.loop-at.invariant.1 s.more s.next (rw s.here at h) (rw s.here at c.insert_line-new.ensures))

pub loop-at-preserved : goal.loop-at-preserved
loop-at-preserved c =
    let s = stepped c.loop-at.invariant.0 c.in-Some.ensures.steps in
    let h = rw c.condition.ensures.value at c.if-marks-condition.false in
    (s.same, sweeping_skip _ _ c.loop-at.invariant.1 s.more s.next (rw s.here at h))

pub returns : goal.returns
returns c = sweeping_last _ _ c.loop-at.invariant.1 (passed_all c.loop-at.invariant.0 c.in-None.ensures.steps)
