-- `check_rule` meets its contract: each test in its order. Assumes nothing.
use Rattle.std.proofs.Common.{◌∙◌, sym, ap}
use Rattle.std.proofs.lemmas.Result.{err_from_is_err_and}
use Rattle.reader.specs.Checks.{literal_fault}
use Rattle.reader.proofs.Ranges.{else_some, else_none, rule_faults}
use Rattle.reader.proofs.check.check_rule.Goals as goal

pub returns-in_err-refuse_if : goal.returns-in_err-refuse_if
returns-in_err-refuse_if c =
    let a = c.args in
    let p = err_from_is_err_and c.from_residual.result c.from_residual.ensures.1 in
    rw (p.1, p.2) (else_some _ c.in_err-refuse_if.ensures ∙ rule_faults a.condition a.weight a.far a.head.now.top a.head.now.conditions)

pub returns-in_err-refuse_if-2 : goal.returns-in_err-refuse_if-2
returns-in_err-refuse_if-2 c =
    let a = c.args in
    let p = err_from_is_err_and c.from_residual-in_err-refuse_if-2.result c.from_residual-in_err-refuse_if-2.ensures.1 in
    rw (p.1, p.2) (else_none c.in_ok-refuse_if.ensures (else_some _ (rw c.is_outside.ensures at c.in_err-refuse_if-2.ensures)) ∙ rule_faults a.condition a.weight a.far a.head.now.top a.head.now.conditions)

pub returns-in-Some : goal.returns-in-Some
returns-in-Some c =
    let a = c.args in
    else_none c.in_ok-refuse_if.ensures (else_none (rw c.is_outside.ensures at c.in_ok-refuse_if-2.ensures) (sym (ap literal_fault c.in-Some.is))) ∙ rule_faults a.condition a.weight a.far a.head.now.top a.head.now.conditions

pub returns-in-None : goal.returns-in-None
returns-in-None c =
    let a = c.args in
    else_none c.in_ok-refuse_if.ensures (else_none (rw c.is_outside.ensures at c.in_ok-refuse_if-2.ensures) (sym (ap literal_fault c.in-None.is))) ∙ rule_faults a.condition a.weight a.far a.head.now.top a.head.now.conditions
