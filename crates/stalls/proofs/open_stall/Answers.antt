-- `stalls::open_stall` meets its contract. Assumes nothing.
use Rattle.stalls.specs.Answers.{stall_of}
use Rattle.stalls.proofs.Lent.{opens_lent}
use Rattle.stalls.proofs.open_stall.Goals as goal

pub returns : goal.returns
returns c =
    let p = c.in_ok-page.ensures in
    let o = rw p.0 at c.open_sound.ensures in
    let t = opens_lent c.args.page.now (stall_of c.args.stall) c.args.area.now p.2 p.3 p.1 c.args.queries.now (o.answer, o.left) in
    record { answer = t.0; left = t.1 }
