-- `check_head` meets its contract: each test in its order. Assumes nothing.
use Rattle.std.proofs.Common.{◌∙◌}
use Rattle.std.proofs.lemmas.Result.{err_from_is_err_and}
use Rattle.reader.proofs.Ranges.{else_some, else_none, head_faults}
use Rattle.reader.proofs.check.check_head.Goals as goal

pub returns-in_err-refuse_if : goal.returns-in_err-refuse_if
returns-in_err-refuse_if c =
    let p = err_from_is_err_and c.from_residual.result c.from_residual.ensures.1 in
    rw (p.1, p.2) (else_some _ (rw c.is_outside.ensures at c.in_err-refuse_if.ensures) ∙ head_faults c.args.top c.args.conditions)

pub returns : goal.returns
returns c = else_none (rw c.is_outside.ensures at c.in_ok-refuse_if.ensures) (rw c.is_outside-2.ensures at c.refuse_if-2.ensures) ∙ head_faults c.args.top c.args.conditions
