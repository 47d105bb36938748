-- `run::reached` meets its contract. Assumes nothing.
use native.Mathlib.Omega.{arith}
use Rattle.std.proofs.lemmas.Result.{err_from_is_err_and}
use Rattle.worklist.proofs.Evaluation.{long_of}
use Rattle.run.proofs.Answering.{value_15, line_15, value_17, line_17}
use Rattle.run.proofs.reached.Goals as goal

pub returns-in_err-c : goal.returns-in_err-c
returns-in_err-c c =
    let p = err_from_is_err_and c.from_residual-in_err-c.result c.from_residual-in_err-c.ensures.1 in
    let s = c.in_ok-page.ensures in
    let f = rw s.0 at c.in_err-c.ensures in
    rw (p.1, p.2, f.0) (value_15 _ _ s.1 s.2 c.args.condition f.1, line_15 _ _ s.1 s.2 c.args.condition f.1)

pub bounds-run-c : goal.bounds-run-c
bounds-run-c c = let s = c.in_ok-page.ensures in omega (arith, long_of c.args.page.now c.args.run.now s.2, rw s.0 at c.in_ok-c.ensures)

pub returns-then-not-marked : goal.returns-then-not-marked
returns-then-not-marked c =
    let s = c.in_ok-page.ensures in
    let i = rw s.0 at c.in_ok-c.ensures in
    let t = rw i.0 at c.if-not-marked.true in
    (value_17 _ _ s.1 s.2 c.args.condition i.1 (omega arith), line_17 _ _ s.1 s.2 c.args.condition i.1 (omega arith))
