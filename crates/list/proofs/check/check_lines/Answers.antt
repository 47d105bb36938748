-- `check_lines` meets its contract: a turn checks one line, `Checking`. Assumes nothing.
use Rattle.std.proofs.Common.{◌≡◌, rules}
use Rattle.std.proofs.lemmas.Result.{err_from_is_err_and}
use Rattle.reader.proofs.Mapped.{mapped_ok, mapped_err}
use Rattle.list.proofs.Passes.{refused_late, refused_line, checking_next, checking_done}
use Rattle.list.proofs.check.check_lines.Goals as goal

pub returns-then-line-eq1025 : goal.returns-then-line-eq1025
returns-then-line-eq1025 c = rw c.at.ensures (refused_late c.args.bytes.now c.args.limits.top c.args.limits.conditions c.loop-at.invariant c.requires c.loop-at-test.true c.if-line-eq1025.true)

pub returns-in_err-known : goal.returns-in_err-known
returns-in_err-known c =
    let a = c.args in
    let p = err_from_is_err_and c.from_residual.result c.from_residual.ensures.1 in
    let e = mapped_err _ _ c.check_line.result c.in_err-known.ensures.variant c.in_err-known.ensures.cases in
    let f = e.2 in
    let d : c.in_err-known.field-0.0 ≡ record { cause = e.0; line = c.loop-at.line } = search rules in
    rw (p.1, p.2, d) (refused_line a.bytes.now a.limits.top a.limits.conditions c.loop-at.invariant c.requires c.loop-at-test.true c.if-line-eq1025.false (rw e.1 at c.check_line.ensures))

pub loop-at-preserved : goal.loop-at-preserved
loop-at-preserved c =
    let h = rw (mapped_ok _ _ c.check_line.result c.in_ok-known.ensures.variant c.in_ok-known.ensures.cases) at c.check_line.ensures in
    checking_next c.args.bytes.now c.args.limits.top c.args.limits.conditions c.loop-at.invariant c.requires c.loop-at-test.true c.if-line-eq1025.false h

pub returns : goal.returns
returns c = checking_done c.args.bytes.now c.args.limits.top c.args.limits.conditions c.loop-at.invariant c.loop-at-test.false
