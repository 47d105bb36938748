-- `step::step` meets its contract. Assumes nothing.
use mathlib.Core.Path.{sym, ◌∙◌}
use native.Mathlib.Omega.{arith}
use Rattle.fixpoint.specs.Interval.{same}
use Rattle.page.proofs.Head.{head_of}
use Rattle.worklist.proofs.Evaluation.{long_of}
use Rattle.step.proofs.Stepping.{beside_grades, step_changed, step_same}
use Rattle.step.proofs.step.Goals as goal

pub body-ends-requires : goal.body-ends-requires
body-ends-requires c = (beside_grades c.recall.ensures c.requires.0 c.requires.3, c.requires.1)

pub remove-requires : goal.remove-requires
remove-requires c = omega (arith, c.requires.1, (head_of c.args.source.now.area c.recall.ensures).few)

pub change-requires : goal.change-requires
change-requires c =
    let b = c.body-ends.ensures in
    (c.requires.1, b.low_in, b.high_in, long_of c.args.source.now.area c.args.run.now c.requires.0, c.requires.3.long)

pub returns-then-ne : goal.returns-then-ne
unfolding same
returns-then-ne c =
    let h = c.held-before.ensures in
    step_changed c.recall.ensures c.requires.0 c.requires.3 c.requires.1 c.requires.2 c.body-ends.ensures
    (sym c.if-ne.true ∙ rw (h.1, h.2) at c.ne.ensures) c.remove.ensures c.change.ensures

pub returns : goal.returns
unfolding same
returns c =
    let h = c.held-before.ensures in
    step_same c.recall.ensures c.requires.0 c.requires.3 c.requires.1 c.requires.2 c.body-ends.ensures
    (sym c.if-ne.false ∙ rw (h.1, h.2) at c.ne.ensures) c.remove.ensures
