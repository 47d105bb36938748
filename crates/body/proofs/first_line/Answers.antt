-- `body::first_line` meets its contract. Assumes nothing.
use mathlib.Core.Path.{◌≡◌, sym, ◌∙◌}
use Prim.Native.Nat.{◌+◌}
use native.Mathlib.Omega.{arith}
use Rattle.page.proofs.Head.{head_of}
use Rattle.page.proofs.Steps.{stepped, passed_all}
use Rattle.body.proofs.Searching.{searching_first, searching_none, line_here, searching_found, searching_next, low_of_none}
use Rattle.body.proofs.first_line.Goals.{else-line-c-via-then-line-c+else-has_low, else-line-c-via-else-line-c}
use Rattle.body.proofs.first_line.Goals as goal

pub loop-at-init : goal.loop-at-init
loop-at-init c = let b = c.lines-lines.ensures.scan in (b.same, searching_first _ _ _ _ (b.place, b.count))

pub overflow_add-result : goal.overflow_add-result
overflow_add-result c =
    let s = stepped c.loop-at.invariant.0 (rw c.in-Some.is at c.next.ensures.steps) in
    omega (arith, s.more, s.next.count, head_of c.args.page.now c.entry-line.ensures.sound)

pub returns-then-has_low : goal.returns-then-has_low
returns-then-has_low c =
    let i = c.loop-at.invariant in
    let e = c.entry-line.ensures in
    let s = stepped i.0 (rw c.in-Some.is at c.next.ensures.steps) in
    let z : c.loop-at.lines.passed + 2 ≡ c.next.new.self.passed + 1 = omega (arith, s.next.count) in
    rw z at (searching_found _ _ _ _ e.sound i.1 s.more (λ I t. sym c.if-has_low.true ∙ rw (sym e.value.condition_is ∙ c.if-line-c.true, s.here) at (c.has_low.ensures I t)))

pub loop-at-preserved : goal.loop-at-preserved
loop-at-preserved c =
    let i = c.loop-at.invariant in
    let e = c.entry-line.ensures in
    let s = stepped i.0 (rw c.in-Some.is at c.next.ensures.steps) in (
      s.same,
      searching_next _ _ _ _ e.sound i.1 s.more
          (elim c.else-line-c.branch [
            | else-line-c-via-then-line-c+else-has_low w ↦ λ I t. sym w.if-has_low.false ∙ rw (sym e.value.condition_is ∙ w.if-line-c.true, s.here) at (w.has_low.ensures I t)
            | else-line-c-via-else-line-c w ↦ λ I t. low_of_none _ _ (line_here _ _ _ _ e.sound i.1 s.more) _ I (λ q b. w.if-line-c.false (e.value.condition_is ∙ rw s.here q))
          ])
          s.next,
    )

pub returns : goal.returns
returns c = searching_none _ _ _ _ c.loop-at.invariant.1 (passed_all c.loop-at.invariant.0 (rw c.in_default.is at c.next.ensures.steps))
