-- `insert_named` meets its contract.
use native.Mathlib.Omega.{arith}
use Rattle.page.proofs.Steps.{stepped, passed_all}
use Rattle.reach.proofs.Inserting.{inserting_few, inserts_few}
use Rattle.reach.proofs.Visiting.{gathering_first, gathering_next, gathering_skip, gathering_last}
use Rattle.reach.proofs.insert_named.Goals as goal

pub loop-at-init : goal.loop-at-init
loop-at-init c =
    let b = c.lines-at-items.ensures in
    rw c.into_iter-at-iterator.ensures.into_iter_gives (b.scan.same, gathering_first _ _ _ b.sound (b.scan.place, b.scan.count))

pub overflow_add-new : goal.overflow_add-new
overflow_add-new c = omega (arith, inserting_few c.loop-at.invariant.1.inserting, inserts_few c.insert_line-new.ensures)

pub loop-at-preserved-then-condition-c : goal.loop-at-preserved-then-condition-c
loop-at-preserved-then-condition-c c =
    let s = stepped c.loop-at.invariant.0 c.in-Some.ensures.steps in
    let e = rw c.condition.ensures.value at c.if-condition-c.true in
    (s.same, gathering_next _ _ _ c.loop-at.invariant.1 s.more s.next (rw s.here at e) (rw s.here at c.insert_line-new.ensures))

pub loop-at-preserved : goal.loop-at-preserved
loop-at-preserved c =
    let s = stepped c.loop-at.invariant.0 c.in-Some.ensures.steps in
    let e = rw c.condition.ensures.value at c.if-condition-c.false in
    (s.same, gathering_skip _ _ _ c.loop-at.invariant.1 s.more s.next (rw s.here at e))

pub returns : goal.returns
returns c = gathering_last _ _ _ c.loop-at.invariant.1 (passed_all c.loop-at.invariant.0 c.in-None.ensures.steps)
