-- `check_lines` meets its contract: a turn checks one line, `Checking`. Assumes nothing.
use Rattle.std.proofs.Common.{arith}
use Rattle.reader.proofs.Passes.{checking_first, refused_late, refused_line, checking_next, checking_done}
use Rattle.reader.proofs.check.check_lines.Goals as goal

pub loop-at-init : goal.loop-at-init
loop-at-init c = let a = c.args in rw c.head_length-used.ensures (checking_first a.bytes.now a.head.now.next a.head.now.top a.head.now.conditions c.requires.2)

pub returns-then-line-eq1026 : goal.returns-then-line-eq1026
returns-then-line-eq1026 c = let a = c.args in refused_late a.bytes.now a.head.now.next a.head.now.top a.head.now.conditions c.loop-at.invariant c.loop-at-test.true c.if-line-eq1026.true

pub overflow_add-used : goal.overflow_add-used
overflow_add-used c = let w = c.loop-at.invariant in omega (arith, w.short, w.most, c.requires.1, (c.in-Ok.ensures w.before w.seen).few)

pub loop-at-smaller : goal.loop-at-smaller
loop-at-smaller c = let w = c.loop-at.invariant in omega (arith, c.loop-at-test.true, (c.in-Ok.ensures w.before w.seen).ends.ahead)

pub loop-at-preserved : goal.loop-at-preserved
loop-at-preserved c =
    let a = c.args in
    let w = c.loop-at.invariant in
    checking_next a.bytes.now a.head.now.next a.head.now.top a.head.now.conditions w c.loop-at-test.true c.if-line-eq1026.false (c.in-Ok.ensures w.before w.seen)

pub returns-in-Err : goal.returns-in-Err
returns-in-Err c =
    let a = c.args in
    let w = c.loop-at.invariant in
    rw c.at.ensures (refused_line a.bytes.now a.head.now.next a.head.now.top a.head.now.conditions w c.loop-at-test.true c.if-line-eq1026.false (c.in-Err.ensures w.before w.seen))

pub returns : goal.returns
returns c = let a = c.args in checking_done a.bytes.now a.head.now.next a.head.now.top a.head.now.conditions c.loop-at.invariant c.requires.1 c.loop-at-test.false
