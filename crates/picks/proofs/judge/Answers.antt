-- `judge` meets its contract.
use mathlib.Core.Path.{sym, ◌∙◌}
use mathlib.Core.Bool.{true≢false}
use native.Mathlib.Omega.{arith}
use Rattle.picks.proofs.Judging.{queries_few, queries_inside, judging_first, judging_small, judged_not_waiting, judging_next, judged_not_at_rest, judged_wrong, judged_accepted, judging_grades}
use Rattle.picks.proofs.judge.Goals as goal

pub spread-reached-requires : goal.spread-reached-requires
spread-reached-requires c = queries_inside c.args.page.now c.args.queries.now c.requires

pub loop-i-init : goal.loop-i-init
loop-i-init c = judging_first _ _ c.requires c.args.picks.now c.spread-reached.ensures

pub overflow_cast-result : goal.overflow_cast-result
overflow_cast-result c = omega (arith, judging_small _ _ c.requires _ c.loop-i.invariant)

pub overflow_add-result : goal.overflow_add-result
overflow_add-result c = omega (arith, judging_small _ _ c.requires _ c.loop-i.invariant)

pub returns-then-not-waits : goal.returns-then-not-waits
returns-then-not-waits c = judged_not_waiting _ _ c.requires _ c.loop-i.invariant (omega arith) (rw c.conditions-n.ensures.value at c.waits.ensures) c.if-not-waits.true c.args.figures.now

pub loop-i-preserved : goal.loop-i-preserved
loop-i-preserved c = judging_next _ _ c.requires _ c.loop-i.invariant (omega arith) (rw c.conditions-n.ensures.value at c.waits.ensures) c.if-not-waits.false c.evaluate.ensures

pub returns-then-not-is_empty : goal.returns-then-not-is_empty
returns-then-not-is_empty c =
    judged_not_at_rest _ _ c.requires _ c.loop-i.invariant (omega arith) (λ n. true≢false (sym (c.is_empty.ensures.1 n) ∙ c.if-not-is_empty.true)) c.args.figures.now

pub figures_held-requires : goal.figures_held-requires
figures_held-requires c =
    let s = c.loop-i.invariant in
    (queries_inside c.args.page.now c.args.queries.now c.requires, queries_few c.args.page.now c.args.queries.now c.requires, judging_grades _ _ c.requires _ s)

pub returns-then-not-figures_held : goal.returns-then-not-figures_held
returns-then-not-figures_held c =
    judged_wrong _ _ c.requires _ c.loop-i.invariant (omega arith) (c.is_empty.ensures.0 c.if-not-is_empty.false) c.figures_held.ensures c.if-not-figures_held.true

pub returns : goal.returns
returns c = judged_accepted _ _ c.requires _ c.loop-i.invariant (omega arith) (c.is_empty.ensures.0 c.if-not-is_empty.false) c.figures_held.ensures c.if-not-figures_held.false
