-- `pass` meets its contract.
use native.Mathlib.Omega.{arith}
use Rattle.semantics.specs.Area.{page_of}
use Rattle.semantics.specs.Page.{names}
use Rattle.page.proofs.Head.{head_of}
use Rattle.reach.proofs.Inserting.{size_most}
use Rattle.reach.proofs.Passing.{following_first, following_next, following_few, following_last}
use Rattle.reach.proofs.pass.Goals as goal

pub loop-c-init : goal.loop-c-init
unfolding page_of
loop-c-init c = rw (c.into_iter-c-iterator.ensures.into_iter_gives, c.drain-c-items.ensures.0) (following_first _ _ _ (head_of _ c.recall.ensures).few c.requires.1)

pub overflow_add-edges : goal.overflow_add-edges
overflow_add-edges c =
    let page = page_of c.args.page.now in
    omega (arith, c.loop-c.invariant.most, (following_few _ _ _ c.loop-c.invariant).1, c.follow-edges.ensures.edges_is, size_most page.conditions (names page c.in-Some.c))

pub overflow_add-reached : goal.overflow_add-reached
overflow_add-reached c = omega (arith, c.loop-c.invariant.most, (following_few _ _ _ c.loop-c.invariant).0)

pub loop-c-preserved : goal.loop-c-preserved
unfolding page_of
loop-c-preserved c =
    let h = c.loop-c.invariant in
    let t = c.in-Some.ensures.steps.0 in
    let m = t.0 in
    following_next _ _ _ h c.in-Some.c _ _ _ _ (c.requires.0 c.in-Some.c m.within (h.inside c.in-Some.c m.within m.found)) m.found t.1 c.follow-edges.ensures

pub returns : goal.returns
returns c = let t = following_last _ _ _ c.loop-c.invariant c.in-None.ensures.steps.0.0 in record { passed = t.0; counted = t.1 }
