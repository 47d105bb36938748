-- `run::fill` meets its contract. Assumes nothing.
use native.Mathlib.Omega.{arith}
use Rattle.worklist.proofs.Evaluation.{graded_of}
use Rattle.run.proofs.fill.Goals as goal

pub fill-requires : goal.fill-requires
fill-requires c =
    let n = c.conditions.ensures in
    rw (c.top.ensures.value, n.value) (graded_of c.args.page.now c.args.run.now n.sound c.requires, omega (arith, n.few, n.value))
