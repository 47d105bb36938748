-- `checked_literal` meets its contract, by the laws of `Tokens`. Assumes nothing.
use Rattle.std.proofs.Common.{◌∙◌}
use Rattle.fields.proofs.Tokens.{literal_place, literal_number, literal_code_lem}
use Rattle.fields.proofs.checked_literal.Goals as goal

pub checked_number-number-requires : goal.checked_number-number-requires
checked_number-number-requires c = let a = c.args in let w = c.requires.0 in (literal_place a.bytes.now a.at w c.sign-negated.ensures, literal_number a.bytes.now a.at w c.sign-negated.ensures ∙ c.requires.1)

pub returns : goal.returns
returns c = let a = c.args in let w = c.requires.0 in literal_code_lem a.bytes.now a.at w c.sign-negated.ensures c.checked_number-number.ensures
