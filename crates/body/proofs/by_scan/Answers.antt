-- `body::by_scan` meets its contract. Assumes nothing.
use Rattle.page.proofs.Steps.{stepped, passed_all as all_passed}
use mathlib.Core.Path.{sym, ◌∙◌}
use Prim.Native.Nat.{◌+◌}
use Rattle.page.proofs.LineNumbers.{place_next}
use Rattle.body.proofs.Gathering.{gathering_skip, gathering_next, gathering_last, Passed, passed_more, passed_all}
use Rattle.body.proofs.by_scan.Goals as goal

pub loop-at-preserved : goal.loop-at-preserved
loop-at-preserved c =
    let i = c.loop-at.invariant in
    let s = stepped i.0 c.in-Some.ensures.steps in
    let k = c.loop-at.at-iterator.passed in (
      s.same,
      place_next _ i.1 s.next,
      rw s.next.count (gathering_skip _ _ _ (Passed c.args.page.now (k + 1)) i.2 (rw (c.entry-line.ensures.value.condition_is, s.here) at c.if-line-c.false) (passed_more _ _ i.1)),
    )

pub loop-at-preserved-then-line-c : goal.loop-at-preserved-then-line-c
loop-at-preserved-then-line-c c =
    let i = c.loop-at.invariant in
    let s = stepped i.0 c.in-Some.ensures.steps in
    let t = c.take_line-best.ensures in
    let k = c.loop-at.at-iterator.passed in (
      s.same,
      place_next _ i.1 s.next,
      rw s.next.count (gathering_next _ _ _ t.sound (Passed c.args.page.now (k + 1)) i.2 (rw (sym c.entry-line.ensures.value.condition_is ∙ c.if-line-c.true, s.here) at t.taken) (passed_more _ _ i.1)),
    )

pub returns : goal.returns
returns c = gathering_last _ _ _ _ c.loop-at.invariant.2 (passed_all _ _ _ (all_passed c.loop-at.invariant.0 c.in-None.ensures.steps))
