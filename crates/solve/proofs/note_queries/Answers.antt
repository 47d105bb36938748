-- `solve::note_queries` meets its contract: a turn passes one line (`Noting`). Assumes nothing.
use native.Mathlib.Omega.{arith}
use Rattle.page.proofs.Head.{head_of}
use Rattle.page.proofs.Steps.{stepped, passed_all}
use Rattle.solve.proofs.Noting.{noting_first, noting_few, noting_next, noting_last}
use Rattle.solve.proofs.note_queries.Goals as goal

pub loop-at-init : goal.loop-at-init
loop-at-init c =
    let l = c.lines-at-items.ensures in
    rw c.into_iter-at-iterator.ensures.into_iter_gives (l.scan.same, noting_first c.args.page.now c.args.queries.now l.sound c.told-queries l.scan.place l.scan.count)

pub note_query-k-requires : goal.note_query-k-requires
note_query-k-requires c =
    let p = c.loop-at.invariant.1 in
    let s = stepped c.loop-at.invariant.0 c.in-Some.ensures.steps in
    (s.line, omega (arith, s.more, noting_few c.args.page.now p, p.width, (head_of _ c.lines-at-items.ensures.sound).count))

pub loop-at-preserved : goal.loop-at-preserved
loop-at-preserved c =
    let p = c.loop-at.invariant.1 in
    let s = stepped c.loop-at.invariant.0 c.in-Some.ensures.steps in
    (s.same, noting_next c.args.page.now p s.more (rw s.here at c.note_query-k.ensures) s.next)

pub returns-clause-noted : goal.returns-clause-noted
returns-clause-noted c = noting_last c.args.page.now c.loop-at.invariant.1 c.lines-at-items.ensures.sound (passed_all c.loop-at.invariant.0 c.in-None.ensures.steps)
