-- `run::drive` meets its contract. Assumes nothing.
use Rattle.semantics.specs.Call.{drive}
use Rattle.std.proofs.lemmas.Result.{err_from_is_err_and}
use Rattle.run.proofs.Driving.{drive_answers}
use Rattle.run.proofs.drive.Goals as goal

pub returns-in_err-page : goal.returns-in_err-page
returns-in_err-page c =
    let p = err_from_is_err_and c.from_residual.result c.from_residual.ensures.1 in
    rw (p.1, p.2) (c.in_err-page.ensures.answers (drive c.args.allowance))

pub returns : goal.returns
returns c = let s = c.in_ok-page.ensures in drive_answers _ _ _ s.1 s.2 (rw (c.scanned.ensures, s.0) at c.drive_over.ensures)
