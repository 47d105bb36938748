-- `run::drive_counted` meets its contract. Assumes nothing.
use Rattle.run.proofs.Driving.{drive_answers}
use Rattle.run.proofs.drive_counted.Goals as goal

pub returns : goal.returns
returns c =
    let d = (rw c.scanned-source.ensures at c.drive_filled-steps.ensures).drives in
    record { line = d.line; answered = drive_answers c.args.page.now c.args.run.now c.args.allowance c.requires.0 c.requires.1 d.answered }
