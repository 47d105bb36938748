-- `copy_tops` copies high ends, which are grades (`first_small`).
use native.Mathlib.Omega.{arith}
use Rattle.stages.proofs.Beginning.{first_small}
use Rattle.stages.proofs.copy_tops.Goals as goal

pub overflow_cast-tops : goal.overflow_cast-tops
overflow_cast-tops c =
    let n = c.conditions-c-end.ensures in
    omega (arith, c.first_top.ensures, first_small c.args.page.now c.args.scratch.now c.loop-c.c n.sound (c.requires.3 _ (omega (arith, n.value)) c.if-marks-t.true))
