-- `check_fact` meets its contract: each test in its order. Assumes nothing.
use Rattle.std.proofs.Common.{◌∙◌}
use Rattle.std.proofs.lemmas.Result.{err_from_is_err_and}
use Rattle.reader.proofs.Ranges.{else_some, else_none, fact_faults}
use Rattle.reader.proofs.check.check_fact.Goals as goal

pub returns-in_err-refuse_if : goal.returns-in_err-refuse_if
returns-in_err-refuse_if c =
    let a = c.args in
    let p = err_from_is_err_and c.from_residual.result c.from_residual.ensures.1 in
    rw (p.1, p.2) (else_some _ c.in_err-refuse_if.ensures ∙ fact_faults a.condition a.low a.high a.head.now.top a.head.now.conditions)

pub returns-in_err-refuse_if-2 : goal.returns-in_err-refuse_if-2
returns-in_err-refuse_if-2 c =
    let a = c.args in
    let p = err_from_is_err_and c.from_residual-in_err-refuse_if-2.result c.from_residual-in_err-refuse_if-2.ensures.1 in
    rw (p.1, p.2) (else_none c.in_ok-refuse_if.ensures (else_some _ c.in_err-refuse_if-2.ensures) ∙ fact_faults a.condition a.low a.high a.head.now.top a.head.now.conditions)

pub returns-in_err-refuse_if-3 : goal.returns-in_err-refuse_if-3
returns-in_err-refuse_if-3 c =
    let a = c.args in
    let p = err_from_is_err_and c.from_residual-in_err-refuse_if-3.result c.from_residual-in_err-refuse_if-3.ensures.1 in
    rw (p.1, p.2) (else_none c.in_ok-refuse_if.ensures (else_none c.in_ok-refuse_if-2.ensures (else_some _ c.in_err-refuse_if-3.ensures)) ∙ fact_faults a.condition a.low a.high a.head.now.top a.head.now.conditions)

pub returns : goal.returns
returns c =
    let a = c.args in
    else_none c.in_ok-refuse_if.ensures (else_none c.in_ok-refuse_if-2.ensures (else_none c.in_ok-refuse_if-3.ensures c.refuse_if-4.ensures)) ∙ fact_faults a.condition a.low a.high a.head.now.top a.head.now.conditions
