-- `run::line_held` meets its contract. Assumes nothing.
use Rattle.run.proofs.Answering.{line_answers}
use Rattle.run.proofs.line_held.Goals as goal

pub returns : goal.returns
returns c =
    let i = c.in_ok-page.ensures in
    let g = i.2 in
    line_answers _ _ g.page_sound g.run_sound c.args.condition g.inside g.reached (rw (i.0, i.1) at c.line_now.ensures)
