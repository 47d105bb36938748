-- `layers::raise_line` meets its contract, by the kind of the line. Assumes nothing.
use native.Mathlib.Omega.{arith}
use Rattle.page.specs.Places.{RuleIn}
use Rattle.page.proofs.LineNumbers.{rule_in}
use Rattle.layers.proofs.Raises.{line_raised, fact_raises, over_raises}
use Rattle.layers.proofs.raise_line.Goals as goal

pub returns-in-1-to-5 : goal.returns-in-1-to-5
returns-in-1-to-5 c =
    let z = c.args in
    let e = c.entry.ensures in
    let r : RuleIn z.page.now z.at = record { line = c.requires.0; least = omega (arith, e.value.kind_is); most = omega (arith, e.value.kind_is) } in
    line_raised z.page.now z.at z.layers.now (rule_in _ e.sound r) c.raise_rule.ensures

pub returns-in_default : goal.returns-in_default
returns-in_default c = fact_raises c.args.page.now c.args.at c.args.layers.now (omega (arith, c.entry.ensures.value.kind_is))

pub returns-in_default-2 : goal.returns-in_default-2
returns-in_default-2 c = over_raises c.args.page.now c.args.at c.args.layers.now (omega (arith, c.entry.ensures.value.kind_is))
