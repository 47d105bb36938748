-- `layers::look` meets its contract: the lines behind are looked at. Assumes nothing.
use Rattle.std.proofs.lemmas.Result.{err_from_is_err_and}
use Rattle.page.proofs.Steps.{stepped, passed_all}
use Rattle.layers.proofs.Looking.{searching_first, searching_next, searching_out, searching_last}
use Rattle.layers.proofs.look.Goals as goal

pub loop-at-init : goal.loop-at-init
loop-at-init c =
    let b = c.lines-at-items.ensures.scan in
    rw c.into_iter-at-iterator.ensures.into_iter_gives
    (b.same, searching_first c.args.page.now c.args.levels.now c.args.level c.lines-at-items.ensures.sound (b.place, b.count))

pub returns-in_err-negated : goal.returns-in_err-negated
returns-in_err-negated c =
    let s = stepped c.loop-at.invariant.0 c.in-Some.ensures.steps in
    let p = err_from_is_err_and c.from_residual.result c.from_residual.ensures.1 in
    rw (p.1, p.2) (searching_out _ _ _ c.loop-at.invariant.1 s.more s.next _ (rw s.here at c.in_err-negated.ensures))

pub loop-at-preserved : goal.loop-at-preserved
loop-at-preserved c =
    let s = stepped c.loop-at.invariant.0 c.in-Some.ensures.steps in
    (s.same, searching_next _ _ _ c.loop-at.invariant.1 s.more s.next (rw s.here at c.in_ok-negated.ensures))

pub returns : goal.returns
returns c = searching_last _ _ _ c.loop-at.invariant.1 (passed_all c.loop-at.invariant.0 c.in-None.ensures.steps)
