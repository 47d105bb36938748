-- `layers::raise_pass` meets its contract: the lines behind are passed. Assumes nothing.
use Rattle.page.proofs.Head.{head_of}
use Rattle.page.proofs.Steps.{stepped, passed_all}
use Rattle.layers.proofs.Raises.{higher_is, passing_first, passing_next, passing_last}
use native.Mathlib.Omega.{arith}
use Rattle.layers.proofs.raise_pass.Goals as goal

pub loop-at-init : goal.loop-at-init
loop-at-init c =
    let b = c.lines-at-items.ensures.scan in
    rw c.into_iter-at-iterator.ensures.into_iter_gives
    (b.same, passing_first c.args.page.now c.args.layers.now c.lines-at-items.ensures.sound c.requires.0 c.requires.1 (b.place, b.count))

pub raise_line-requires : goal.raise_line-requires
raise_line-requires c =
    let h = c.loop-at.invariant.1 in
    let s = stepped c.loop-at.invariant.0 c.in-Some.ensures.steps in
    (s.line, h.size, λ x. omega (arith, s.more, (head_of _ h.ok).count, h.low x))

pub loop-at-preserved : goal.loop-at-preserved
loop-at-preserved c =
    let h = c.loop-at.invariant.1 in
    let s = stepped c.loop-at.invariant.0 c.in-Some.ensures.steps in
    (s.same, rw (c.max-most.ensures, higher_is c.loop-at.most c.raise_line.result) (passing_next c.args.page.now c.args.layers.now h s.more s.next (rw s.here at c.raise_line.ensures)))

pub returns : goal.returns
returns c = passing_last c.args.page.now c.args.layers.now c.requires.0 c.loop-at.invariant.1 (passed_all c.loop-at.invariant.0 c.in-None.ensures.steps)
