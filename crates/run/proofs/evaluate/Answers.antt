-- `run::evaluate` meets its contract. Assumes nothing.
use Rattle.semantics.specs.Call.{evaluate}
use Rattle.std.proofs.lemmas.Result.{err_from_is_err_and}
use Rattle.run.proofs.Answering.{refused_10}
use Rattle.run.proofs.evaluate.Goals as goal

pub returns-in_err-page : goal.returns-in_err-page
returns-in_err-page c =
    let p = err_from_is_err_and c.from_residual.result c.from_residual.ensures.1 in
    let f = c.in_err-page.ensures in
    rw (p.1, p.2, f.0) (refused_10 _ _ f.1 (evaluate c.args.condition))

pub returns : goal.returns
returns c = rw c.in_ok-page.ensures.0 at c.evaluate_sound.ensures
