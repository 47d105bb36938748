-- `read_literal` meets its contract, by the laws of `Tokens`. Assumes nothing.
use Rattle.fields.proofs.Tokens.{literal_at}
use Rattle.fields.proofs.read_literal.Goals as goal

pub returns : goal.returns
returns c = let a = c.args in literal_at a.bytes.now a.at c.requires c.sign-negated.ensures c.digits.result c.digits.ensures
