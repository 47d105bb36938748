-- `run::drive_filled` meets its contract. Assumes nothing.
use native.Mathlib.Omega.{arith}
use Rattle.index.proofs.Lookup.{area_is}
use Rattle.worklist.proofs.Evaluation.{long_of, marks_of}
use Rattle.run.proofs.drive_filled.Goals as goal

pub waiting_set-waiting-requires : goal.waiting_set-waiting-requires
waiting_set-waiting-requires c =
    let n = rw (area_is c.source.view_is) at c.conditions.ensures in
    rw n.value (long_of c.args.source.now.area c.args.run.now c.requires, omega (arith, n.few, n.value), marks_of c.args.source.now.area c.args.run.now c.requires)
