-- `check_line` meets its contract, by the laws of `Faults`. Assumes nothing.
use Rattle.std.proofs.Common.{◌≡◌}
use Rattle.std.proofs.lemmas.Result.{err_from_is_err_and}
use Rattle.list.specs.declared.Cause.TheVariants.{Form}
use Rattle.list.proofs.Faults.{no_form_told, far_told, range_first, order_first, a_good_line}
use Rattle.list.proofs.check.check_line.Goals as goal

pub returns-in_err-known : goal.returns-in_err-known
returns-in_err-known c =
    let a = c.args in
    let p = err_from_is_err_and c.from_residual.result c.from_residual.ensures.1 in
    let e : c.in_err-known.field-0.0 ≡ Form = cc (rw c.in_err-known.ensures.ok_part at c.in_err-known.ensures.value) in
    rw (p.1, p.2, e) (no_form_told a.bytes.now a.at a.before a.limits.top a.limits.conditions (rw c.in_err-known.ensures.ok_part at c.parse_trial.ensures))

pub returns-then-known-ge65536 : goal.returns-then-known-ge65536
returns-then-known-ge65536 c =
    let a = c.args in
    far_told a.bytes.now a.at a.before a.limits.top a.limits.conditions (rw c.in_ok-known.ensures.ok_part at c.parse_trial.ensures) c.requires.1 c.if-known-ge65536.true

pub returns-in_err-check_range : goal.returns-in_err-check_range
returns-in_err-check_range c =
    let a = c.args in
    let p = err_from_is_err_and c.from_residual-in_err-check_range.result c.from_residual-in_err-check_range.ensures.1 in
    rw (p.1, p.2) (range_first a.bytes.now a.at a.before a.limits.top a.limits.conditions (rw c.in_ok-known.ensures.ok_part at c.parse_trial.ensures) c.requires.1 c.if-known-ge65536.false c.in_err-check_range.ensures)

pub returns-in_err-check_order : goal.returns-in_err-check_order
returns-in_err-check_order c =
    let a = c.args in
    let p = err_from_is_err_and c.from_residual-in_err-check_order.result c.from_residual-in_err-check_order.ensures.1 in
    rw (p.1, p.2)
    (order_first a.bytes.now a.at a.before a.limits.top a.limits.conditions (rw c.in_ok-known.ensures.ok_part at c.parse_trial.ensures) c.requires.1 c.if-known-ge65536.false c.in_ok-check_range.ensures c.in_err-check_order.ensures)

pub returns : goal.returns
returns c =
    let a = c.args in
    a_good_line a.bytes.now a.at a.before a.limits.top a.limits.conditions (rw c.in_ok-known.ensures.ok_part at c.parse_trial.ensures) c.requires.1 c.if-known-ge65536.false c.in_ok-check_range.ensures c.in_ok-check_order.ensures
