-- `digits` meets its contract, by the laws of `ReadDigits`. Assumes nothing.
use Rattle.fields.proofs.ReadDigits.{no_digits, zero_only}
use Rattle.fields.proofs.digits.Goals as goal

pub returns-in_err-first : goal.returns-in_err-first
returns-in_err-first c = let a = c.args in rw c.from_residual.ensures (no_digits a.bytes.now a.at c.requires c.in_err-first.ensures)

pub returns-then-first-eq0 : goal.returns-then-first-eq0
returns-then-first-eq0 c = let a = c.args in zero_only a.bytes.now a.at c.requires c.in_ok-first.ensures c.if-first-eq0.true
