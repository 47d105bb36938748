-- `rule_end` folds the op over the numbers of the literals and applies the weight (`rule_end_is`).
use Rattle.semantics.specs.Grade.{divided}
use Rattle.page.proofs.Head.{head_of}
use Rattle.value.proofs.Dividing.{adds_small}
use Rattle.value.proofs.RuleEnds.{foldable, fold_in, rule_end_is}
use Rattle.value.proofs.rule_end.Goals as goal

pub fold_by_op-r-requires : goal.fold_by_op-r-requires
fold_by_op-r-requires c =
    let r = rw (← c.page.view_is) at c.requires in (r.1, foldable _ _ _ r.1 c.page.invariant r.0, adds_small (head_of _ c.page.invariant).top_least r.2)

pub product-requires : goal.product-requires
product-requires c =
    let r = rw (← c.page.view_is) at c.requires in
    let h = head_of c.page.inside.numbers.now c.page.invariant in
    let x = fold_in _ _ _ r.1 _ c.page.invariant r.0 (c.fold_by_op-r.ensures _ r.2.1) in (h.top_most, x, r.1.weight, adds_small h.top_least r.2)

pub returns : goal.returns
unfolding divided
returns c =
    let r = rw (← c.page.view_is) at c.requires in
    rw (← c.page.view_is)
    (λ e q. rule_end_is _ _ _ r.1 e c.page.invariant r.0 (c.fold_by_op-r.ensures e q) (rw q at c.product.ensures.value))
