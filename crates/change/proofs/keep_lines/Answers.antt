-- `keep_lines` meets its contract. The loop's invariant: those of the lines passed that stay are written. Assumes nothing.
use native.Mathlib.Omega.{arith}
use Rattle.page.proofs.Steps.{stepped, passed_all}
use Rattle.change.proofs.Keeping.{keeping_first, entry_room, keeping_next, keeping_done}
use Rattle.change.proofs.keep_lines.Goals as goal

pub loop-at-init : goal.loop-at-init
loop-at-init c =
    let b = c.lines-at-items.ensures.scan in
    rw c.into_iter-at-iterator.ensures.into_iter_gives (b.same, keeping_first _ _ _ c.requires.0 c.requires.1 (c.requires.2, c.requires.3) (b.place, b.count))

pub keep_line-requires : goal.keep_line-requires
keep_line-requires c =
    let i = c.loop-at.invariant.1 in
    let t = stepped c.loop-at.invariant.0 c.in-Some.ensures.steps in
    (t.line, rw t.here (entry_room _ _ _ i t.more), omega (arith, i.few, i.lines, t.more))

pub loop-at-preserved : goal.loop-at-preserved
loop-at-preserved c =
    let s = stepped c.loop-at.invariant.0 c.in-Some.ensures.steps in
    (s.same, keeping_next _ _ _ c.loop-at.invariant.1 s.more s.next (rw s.here at c.keep_line.ensures))

pub returns : goal.returns
returns c = keeping_done _ _ _ c.loop-at.invariant.1 (passed_all c.loop-at.invariant.0 c.in-None.ensures.steps)
