-- `layers::begin` meets its contract: the lines behind are passed. Assumes nothing.
use mathlib.Core.Path.{◌∙◌}
use Rattle.page.proofs.Steps.{stepped, passed_all}
use Rattle.layers.proofs.Beginning.{filled_either, beginning_first, beginning_next, beginning_last}
use Rattle.layers.proofs.begin.Goals as goal

pub loop-at-init : goal.loop-at-init
loop-at-init c =
    let b = c.lines-at-items.ensures.scan in
    rw c.into_iter-at-iterator.ensures.into_iter_gives
    (b.same, beginning_first c.args.page.now c.lines-at-items.ensures.sound (c.fill.ensures.len ∙ c.requires) (filled_either _ _ (c.fill.ensures.after (λ y e. e))) (b.place, b.count))

pub loop-at-preserved : goal.loop-at-preserved
loop-at-preserved c =
    let s = stepped c.loop-at.invariant.0 c.in-Some.ensures.steps in
    (s.same, beginning_next c.args.page.now c.loop-at.invariant.1 s.more s.next (rw s.here at c.open_head.ensures))

pub returns : goal.returns
returns c = beginning_last c.args.page.now c.loop-at.invariant.1 (passed_all c.loop-at.invariant.0 c.in-None.ensures.steps)
