-- `fold`: the op, literal by literal (`Folding`).
use Rattle.value.proofs.Folds.{listed_here, grade_here, folding_here}
use Rattle.value.proofs.fold.Goals as goal

pub bounds-values-a : goal.bounds-values-a
bounds-values-a g c = listed_here _ _ _ c.requires.1 c.loop-i-test.true c.requires.3

pub op-r-requires : goal.op-r-requires
op-r-requires g c =
    let r = c.requires in
    r.4.callable _ _ (c.loop-i.invariant.0 r.2 r.3 r.4) (grade_here _ _ _ r.1 c.loop-i-test.true r.3)

pub loop-i-preserved : goal.loop-i-preserved
loop-i-preserved g c =
    let r = c.requires in
    let i = c.loop-i.invariant in (
      λ top w o. o.grade _ _ _ (i.0 top w o) (grade_here _ _ _ r.1 c.loop-i-test.true w) c.op-r.ensures,
      λ f h. folding_here _ _ _ r.1 c.loop-i-test.true (i.1 f h) (h _ _ _ c.op-r.ensures),
    )
