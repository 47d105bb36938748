-- `open_run` meets its contract: refusal 10, and the rest on a sound page.
use Rattle.reach.proofs.Refusals.{open_10}
use Rattle.reach.proofs.open_run.Goals as goal

pub returns-in_default : goal.returns-in_default
returns-in_default c =
    let z = c.args in
    let t = open_10 z.page.now z.queries.now z.run.now c.in_default.ensures in
    record { answer = t.0; left = t.1 }
