-- `run::check_areas` meets its contract. Assumes nothing.
use Rattle.std.proofs.lemmas.Result.{err_from_is_err_and}
use Rattle.run.proofs.Answering.{refuses_10, refuses_14}
use Rattle.run.proofs.check_areas.Goals as goal

pub returns-in_err-page : goal.returns-in_err-page
returns-in_err-page c =
    let p = err_from_is_err_and c.from_residual.result c.from_residual.ensures.1 in
    let f = c.in_err-page.ensures in
    rw (p.1, p.2, f.0) (refuses_10 _ _ f.1)

pub returns-in_err-check_run : goal.returns-in_err-check_run
returns-in_err-check_run c =
    let p = err_from_is_err_and c.from_residual-in_err-check_run.result c.from_residual-in_err-check_run.ensures.1 in
    let s = c.in_ok-page.ensures in
    let f = rw s.0 at c.in_err-check_run.ensures in
    rw (p.1, p.2, f.0) (refuses_14 _ _ s.1 f.1)

pub returns : goal.returns
returns c = let s = c.in_ok-page.ensures in (s.0, s.1, rw s.0 at c.in_ok-check_run.ensures)
