-- `check_page` meets its contract, by the laws of `Texts`. Assumes nothing.
use Rattle.std.proofs.Common.{sym, ◌∙◌}
use mathlib.Core.Bool.{false≢true}
use Rattle.reader.proofs.Texts.{too_long, unended, text_place, ended}
use Rattle.reader.proofs.check.check_page.Goals as goal

pub returns-then-bytes-gt65535 : goal.returns-then-bytes-gt65535
returns-then-bytes-gt65535 c = rw c.from.ensures (too_long c.args.bytes.now c.if-bytes-gt65535.true)

pub returns-then-not-is_ended : goal.returns-then-not-is_ended
returns-then-not-is_ended c = rw c.from-then-not-is_ended.ensures (unended c.args.bytes.now c.if-bytes-gt65535.false (λ e. false≢true (sym c.if-not-is_ended.true ∙ c.is_ended.ensures.1 e)))

pub check_all-requires : goal.check_all-requires
check_all-requires c = (text_place c.args.bytes.now c.if-bytes-gt65535.false (c.is_ended.ensures.0 c.if-not-is_ended.false), c.requires)

pub returns : goal.returns
returns c = rw (ended c.args.bytes.now c.if-bytes-gt65535.false (c.is_ended.ensures.0 c.if-not-is_ended.false)) c.check_all.ensures
