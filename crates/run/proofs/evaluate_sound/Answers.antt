-- `run::evaluate_sound` meets its contract. Assumes nothing.
use mathlib.Core.Path.{refl}
use native.Mathlib.Omega.{arith}
use Rattle.semantics.specs.Call.{evaluate}
use Rattle.std.proofs.lemmas.Result.{err_from_is_err_and}
use Rattle.worklist.proofs.Evaluation.{long_of}
use Rattle.run.proofs.Answering.{refused_14, evaluate_15, evaluate_16, evaluate_answers}
use Rattle.run.proofs.evaluate_sound.Goals as goal

pub returns-in_err-check_run : goal.returns-in_err-check_run
returns-in_err-check_run c =
    let p = err_from_is_err_and c.from_residual.result c.from_residual.ensures.1 in
    let f = c.in_err-check_run.ensures in
    rw (p.1, p.2, f.0) (refused_14 _ _ c.requires f.1 (evaluate c.args.condition))

pub returns-in_err-c : goal.returns-in_err-c
returns-in_err-c c =
    let p = err_from_is_err_and c.from_residual-in_err-c.result c.from_residual-in_err-c.ensures.1 in
    let f = c.in_err-c.ensures in
    rw (p.1, p.2, f.0) (evaluate_15 _ _ c.requires c.in_ok-check_run.ensures c.args.condition f.1)

pub bounds-run-c : goal.bounds-run-c
bounds-run-c c = omega (arith, long_of c.args.page.now c.args.run.now c.in_ok-check_run.ensures, c.in_ok-c.ensures)

pub returns-then-not-waits : goal.returns-then-not-waits
returns-then-not-waits c =
    let i = c.in_ok-c.ensures in
    evaluate_16 _ _ c.requires c.in_ok-check_run.ensures c.args.condition i.1 (rw i.0 at c.if-not-waits.true)

pub returns : goal.returns
returns c =
    let i = c.in_ok-c.ensures in
    evaluate_answers _ _ c.requires c.in_ok-check_run.ensures c.args.condition i.1 (rw i.0 at c.if-not-waits.false) (rw i.0 at c.evaluate_waiting.ensures) refl
