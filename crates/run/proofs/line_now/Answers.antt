-- `run::line_now` meets its contract. Assumes nothing.
use Rattle.step.proofs.Stepping.{beside_grades}
use Rattle.run.proofs.Answering.{line_of_held}
use Rattle.run.proofs.line_now.Goals as goal

pub body-body-requires : goal.body-body-requires
body-body-requires c = let f = c.fill.ensures in rw c.scanned-source.ensures (beside_grades f.sound c.requires.0 f.held, c.requires.1)

pub first_line-requires : goal.first_line-requires
first_line-requires c = let f = c.fill.ensures in beside_grades f.sound c.requires.0 f.held

pub returns : goal.returns
returns c = let f = c.fill.ensures in line_of_held f.sound c.requires.0 f.held (rw c.scanned-source.ensures at c.body-body.ensures) c.first_line.ensures
