-- `parse_line` meets its contract, by the laws of `Forms`. Assumes nothing.
use native.Mathlib.Omega.{arith}
use mathlib.Core.Path.{◌∙◌}
use Rattle.fields.proofs.Places.{byte_here}
use Rattle.lines.proofs.Forms.{other_line}
use Rattle.lines.proofs.parse_line.Goals as goal

pub returns-in-70 : goal.returns-in-70
returns-in-70 c = c.parse_fact.ensures c.args.conditions

pub returns-in-81 : goal.returns-in-81
returns-in-81 c = c.parse_query.ensures c.args.conditions

pub returns-in-68 : goal.returns-in-68
returns-in-68 c = c.parse_default.ensures c.args.conditions

pub returns-in_default : goal.returns-in_default
returns-in_default c =
    let a = c.args in
    let b = byte_here a.bytes.now a.at c.requires.inside in
    other_line a.bytes.now a.at (λ z. omega (arith, b ∙ z)) (λ z. omega (arith, b ∙ z)) (λ z. omega (arith, b ∙ z)) (λ z. omega (arith, b ∙ z))
