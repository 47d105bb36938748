-- `begin` writes the four numbers of one condition after the other (`Beginning`).
use mathlib.Core.Path.{◌∙◌}
use native.Mathlib.Omega.{arith}
use Rattle.stages.proofs.Beginning.{beginning_next, first_marked, first_unmarked}
use Rattle.stages.proofs.begin.Goals.{then-marks-c, else-marks-c}
use Rattle.stages.proofs.begin.Goals as goal

pub loop-c-preserved : goal.loop-c-preserved
loop-c-preserved c =
    let n = c.conditions-n.ensures.value in
    let t = c.top-top.ensures.value in
    rw (n, t)
    (beginning_next _ _ _ c.loop-c.invariant (omega (arith, n)) c.if-marks-c.high (elim c.if-marks-c.branch [
      | then-marks-c w ↦ w.high-is ∙ t ∙ first_marked c.args.page.now c.args.marks.now c.loop-c.c w.if-marks-c.true
      | else-marks-c w ↦ w.high-is ∙ first_unmarked c.args.page.now c.args.marks.now c.loop-c.c w.if-marks-c.false
    ]))
