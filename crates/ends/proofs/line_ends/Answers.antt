-- `ends::line_ends` hands back both ends of what the line adds to the body of its head: a fact's, or a rule's. Assumes nothing.
use native.Mathlib.Omega.{arith}
use Rattle.semantics.specs.Grade.{lower, upper}
use Rattle.page.proofs.LineNumbers.{rule_of}
use Rattle.value.proofs.Lines.{line_fact, line_rule}
use Rattle.ends.proofs.line_ends.Goals as goal

pub rule_ends-requires : goal.rule_ends-requires
rule_ends-requires c =
    let e = c.entry-line.ensures in
    (c.requires.0, rule_of _ e.sound c.requires.1 (omega (arith, e.value.kind_is)))

pub returns-in-0 : goal.returns-in-0
returns-in-0 c =
    let e = c.entry-line.ensures in
    rw (e.value.x_is, e.value.y_is)
    (line_fact _ e.sound c.requires.1 _ lower (omega (arith, e.value.kind_is)), line_fact _ e.sound c.requires.1 _ upper (omega (arith, e.value.kind_is)))

pub returns-in_default : goal.returns-in_default
returns-in_default c =
    let e = c.entry-line.ensures in (
      line_rule _ e.sound c.requires.1 _ lower (omega (arith, e.value.kind_is)) c.rule_ends.ensures.0,
      line_rule _ e.sound c.requires.1 _ upper (omega (arith, e.value.kind_is)) c.rule_ends.ensures.1,
    )
