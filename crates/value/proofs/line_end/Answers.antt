-- `line_end` hands back the end of what the line adds to the body of its head: a fact's, or a rule's.
use native.Mathlib.Omega.{arith}
use Rattle.semantics.specs.Grade.{lower, upper}
use Rattle.page.proofs.LineNumbers.{rule_of, line_in}
use Rattle.value.specs.Table.{side}
use Rattle.value.proofs.Lines.{line_fact, line_rule}
use Rattle.value.proofs.line_end.Goals as goal

pub kind-requires : goal.kind-requires
kind-requires c = line_in c.requires.1

pub entry-fact-requires : goal.entry-fact-requires
entry-fact-requires c = line_in c.requires.1

pub rule_end-requires : goal.rule_end-requires
rule_end-requires c =
    let e = c.kind.ensures in
    (c.requires.0, rule_of _ e.sound c.requires.1 (omega (arith, e.value)), (side c.args.end, c.requires.2))

pub returns-in-Lower : goal.returns-in-Lower
returns-in-Lower c = let e = c.entry-fact.ensures in rw (c.in-Lower.is, e.value.x_is) (line_fact _ e.sound c.requires.1 _ lower (omega (arith, c.kind.ensures.value)))

pub returns-in-Upper : goal.returns-in-Upper
returns-in-Upper c = let e = c.entry-fact.ensures in rw (c.in-Upper.is, e.value.y_is) (line_fact _ e.sound c.requires.1 _ upper (omega (arith, c.kind.ensures.value)))

pub returns-in_default : goal.returns-in_default
returns-in_default c = let e = c.kind.ensures in line_rule _ e.sound c.requires.1 _ _ (omega (arith, e.value)) (c.rule_end.ensures _ c.requires.2)
