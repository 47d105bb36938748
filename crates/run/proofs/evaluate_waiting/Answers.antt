-- `run::evaluate_waiting` meets its contract. Assumes nothing.
use native.Mathlib.Omega.{arith}
use Rattle.worklist.proofs.Evaluation.{graded_of}
use Rattle.step.proofs.Telling.{told_holder}
use Rattle.run.proofs.evaluate_waiting.Goals as goal

pub line_told-line-requires : goal.line_told-line-requires
line_told-line-requires c =
    let v = rw c.scanned-source.ensures at c.step-changed.ensures in
    let h = c.held-before.ensures in
    let g = (graded_of c.args.page.now c.args.run.now c.fill.ensures.sound c.requires.0).within c.args.c c.requires.1 in
    (v.evaluated.run_sound, v.beside.long, v.beside.table, omega (arith, h.0, c.requires.1), omega (arith, h.1, g.low_in), omega (arith, h.2, g.high_in))

pub returns : goal.returns
returns c =
    let v = rw c.scanned-source.ensures at c.step-changed.ensures in
    let h = c.held-before.ensures in
    (v.evaluated, told_holder c.args.page.now c.args.run.now c.fill.ensures.sound c.requires.0 c.args.c c.requires.1 c.requires.2 v.evaluated (rw (h.0, h.1, h.2) at c.line_told-line.ensures))
