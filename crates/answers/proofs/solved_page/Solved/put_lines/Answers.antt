-- `Solved::put_lines` meets its contract: a turn passes one line (`Printing`). Assumes nothing.
use native.Mathlib.Omega.{arith}
use Rattle.page.proofs.Steps.{stepped, passed_all}
use Rattle.answers.proofs.Printing.{printing_first, printing_room, small_here, printing_next, printing_last}
use Rattle.answers.proofs.solved_page.Solved.put_lines.Goals as goal

pub loop-at-init : goal.loop-at-init
loop-at-init c =
    let l = c.lines-at-items.ensures in
    rw c.into_iter-at-iterator.ensures.into_iter_gives (l.scan.same, printing_first _ _ _ l.sound (omega (arith, c.requires)) (l.scan.place, l.scan.count))

pub put_line-count-requires : goal.put_line-count-requires
put_line-count-requires c =
    let v = c.args.self.now in
    let p = c.loop-at.invariant.1 in
    let s = stepped c.loop-at.invariant.0 c.in-Some.ensures.steps in
    (s.line, rw s.here (λ e. small_here _ _ _ p s.more e v.figures _ c.lines-at-items.ensures.sound), printing_room _ _ _ p s.more c.requires)

pub loop-at-preserved : goal.loop-at-preserved
loop-at-preserved c =
    let s = stepped c.loop-at.invariant.0 c.in-Some.ensures.steps in
    (s.same, printing_next _ _ _ c.loop-at.invariant.1 s.more c.args.self.now.figures (rw s.here at c.put_line-count.ensures) s.next)

pub returns : goal.returns
returns c = printing_last _ _ _ c.loop-at.invariant.1 (passed_all c.loop-at.invariant.0 c.in-None.ensures.steps)
