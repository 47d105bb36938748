-- `layers::look_line` meets its contract, by the head and the kind of the line. Assumes nothing.
use native.Mathlib.Omega.{arith}
use Rattle.page.specs.Places.{RuleIn}
use Rattle.page.proofs.LineNumbers.{rule_in}
use Rattle.layers.proofs.Looking.{line_looked, fact_looked, over_looked}
use Rattle.layers.proofs.look_line.Goals as goal

pub returns-in-1-to-5 : goal.returns-in-1-to-5
returns-in-1-to-5 c =
    let z = c.args in
    let e = c.entry-line.ensures in
    let r : RuleIn z.page.now z.at = record { line = c.requires.0; least = omega (arith, e.value.kind_is); most = omega (arith, e.value.kind_is) } in
    line_looked z.page.now z.at z.levels.now z.level (rule_in _ e.sound r) (rw e.value.condition_is at c.if-levels-line.false) c.look_rule.result c.look_rule.ensures

pub returns-in_default : goal.returns-in_default
returns-in_default c = fact_looked c.args.page.now c.args.at c.args.levels.now c.args.level (omega (arith, c.entry-line.ensures.value.kind_is))

pub returns-in_default-2 : goal.returns-in_default-2
returns-in_default-2 c = over_looked c.args.page.now c.args.at c.args.levels.now c.args.level (omega (arith, c.entry-line.ensures.value.kind_is))
