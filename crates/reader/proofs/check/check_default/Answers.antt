-- `check_default` meets its contract, by the laws of `Ranges`. Assumes nothing.
use Rattle.std.proofs.lemmas.Result.{err_from_is_err_and}
use Rattle.reader.proofs.Ranges.{default_far, default_near}
use Rattle.reader.proofs.check.check_default.Goals as goal

pub returns-in_err-refuse_if : goal.returns-in_err-refuse_if
returns-in_err-refuse_if c =
    let p = err_from_is_err_and c.from_residual.result c.from_residual.ensures.1 in
    rw (p.1, p.2) (default_far c.args.conditions c.args.condition c.args.seen.now.words c.args.seen.now.words c.in_err-refuse_if.ensures)

pub returns : goal.returns
returns c = default_near c.args.conditions c.args.condition c.in_ok-refuse_if.ensures c.insert.ensures.set c.insert.ensures.new c.refuse_if-2.ensures
