-- `number_before` meets its contract. Assumes nothing.
use Rattle.std.proofs.Common.{◌∙◌}
use Rattle.fields.proofs.Tokens.{before_none, ends_number, ends_other}
use Rattle.fields.proofs.number_before.Goals as goal

pub returns-in_err-number : goal.returns-in_err-number
returns-in_err-number c = c.from_residual.ensures ∙ before_none c.args.bytes.now c.args.at c.args.mark c.in_err-number.ensures

pub returns-then-bytes-number : goal.returns-then-bytes-number
returns-then-bytes-number c = ends_number c.args.bytes.now c.args.at c.args.mark c.requires.1 c.in_ok-number.ensures c.if-bytes-number.true

pub returns : goal.returns
returns c = ends_other c.args.bytes.now c.args.at c.args.mark c.requires.1 c.in_ok-number.ensures c.if-bytes-number.false
