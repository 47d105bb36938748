-- `stalls::turn` meets its contract. Assumes nothing.
use Rattle.std.proofs.lemmas.Result.{err_from_is_err_and}
use Rattle.stalls.proofs.Refusals.{turn_first, turn_second}
use Rattle.stalls.proofs.turn.Goals as goal

pub returns-in_err-check_part : goal.returns-in_err-check_part
returns-in_err-check_part c =
    let p = err_from_is_err_and c.from_residual-in_err-check_part.result c.from_residual-in_err-check_part.ensures.1 in
    let s = c.in_ok-page.ensures in
    let f = rw s.0 at c.in_err-check_part.ensures in
    let t = turn_first c.args.page.now c.args.area.now s.1 s.2 c.args.allowance f.1 in
    record { answer = rw (p.1, p.2, f.0) t.0; left = t.1 }

pub returns-in_err-check_part-2 : goal.returns-in_err-check_part-2
returns-in_err-check_part-2 c =
    let p = err_from_is_err_and c.from_residual-in_err-check_part-2.result c.from_residual-in_err-check_part-2.ensures.1 in
    let s = c.in_ok-page.ensures in
    let f = rw s.0 at c.in_err-check_part-2.ensures in
    let t = turn_second c.args.page.now c.args.area.now s.1 s.2 c.args.allowance (rw s.0 at c.in_ok-check_part.ensures) f.1 in
    record { answer = rw (p.1, p.2, f.0) t.0; left = t.1 }
