-- `find` meets its contract.
use native.Mathlib.Omega.{arith}
use Rattle.semantics.specs.Area.{page_of}
use Rattle.page.proofs.Solvable.{solvable_proper}
use Rattle.reach.proofs.Counting.{counted_few}
use Rattle.reach.proofs.Naming.{queries_few}
use Rattle.reach.proofs.Passing.{finding_first, finding_next, finding_last, finding_few, finding_counts, fresh_inside}
use Rattle.reach.proofs.find.Goals as goal

pub insert_queries-requires : goal.insert_queries-requires
insert_queries-requires c = queries_few _ c.recall.ensures c.args.queries.now c.requires

pub loop-fresh-init : goal.loop-fresh-init
unfolding page_of
loop-fresh-init c = finding_first _ _ (solvable_proper _ c.recall.ensures) c.requires _ _ c.empty-set.ensures c.insert_queries.ensures

pub pass-more-requires : goal.pass-more-requires
unfolding page_of
pass-more-requires c = (fresh_inside _ _ c.loop-fresh.invariant, λ k l. c.empty-new.ensures k)

pub overflow_add-passes : goal.overflow_add-passes
overflow_add-passes c = let f = c.loop-fresh.invariant in omega (arith, f.proper.conditions_most, finding_few _ _ f)

pub overflow_add-reached : goal.overflow_add-reached
overflow_add-reached c = let f = c.loop-fresh.invariant in omega (arith, (finding_counts _ _ f).0, (counted_few _ _ c.pass-more.ensures.counted f.proper.conditions_most).0)

pub overflow_add-edges : goal.overflow_add-edges
overflow_add-edges c = let f = c.loop-fresh.invariant in omega (arith, (finding_counts _ _ f).1, (counted_few _ _ c.pass-more.ensures.counted f.proper.conditions_most).1)

pub returns : goal.returns
returns c =
    let p = c.pass-more.ensures in
    let t = finding_last _ _ c.loop-fresh.invariant p.passed p.counted (c.is_empty.ensures.0 c.if-is_empty.true) in record { found = t.0; counted = t.1 }

pub loop-fresh-preserved : goal.loop-fresh-preserved
loop-fresh-preserved c = let p = c.pass-more.ensures in finding_next _ _ c.loop-fresh.invariant p.passed p.counted c.is_empty.ensures.1 c.if-is_empty.false

pub loop-fresh-smaller : goal.loop-fresh-smaller
unfolding page_of
loop-fresh-smaller c =
    let p = c.pass-more.ensures in
    let f = finding_next _ _ c.loop-fresh.invariant p.passed p.counted c.is_empty.ensures.1 c.if-is_empty.false in
    omega (arith, finding_few _ _ f)
