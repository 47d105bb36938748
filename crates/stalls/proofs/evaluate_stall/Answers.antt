-- `stalls::evaluate_stall` meets its contract. Assumes nothing.
use Rattle.stalls.specs.Answers.{stall_of}
use Rattle.stalls.proofs.Lent.{evaluates_lent}
use Rattle.stalls.proofs.evaluate_stall.Goals as goal

pub returns : goal.returns
returns c =
    let p = c.in_ok-page.ensures in
    evaluates_lent c.args.page.now (stall_of c.args.stall) c.args.area.now p.2 p.3 p.1 c.args.condition (rw p.0 at c.evaluate_sound.ensures)
