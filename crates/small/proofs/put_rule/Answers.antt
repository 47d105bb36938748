-- `small::put_rule` meets its contract: the two forms of a literal. Assumes nothing.
use native.Mathlib.Omega.{arith}
use Rattle.print.proofs.Writing.{puts_then, puts_as}
use Rattle.small.proofs.Texts.{rule_digits, rule_negative, rule_positive}
use Rattle.small.proofs.put_rule.Goals as goal
use Rattle.small.proofs.put_rule.Goals.{then-negated, else-negated}

pub returns : goal.returns
returns c =
    let n = c.args.n in
    let r = c.args.r in
    let w = rule_digits n r c.requires.1 c.requires.2 c.requires.3 in
    elim c.if-negated.branch [
      | then-negated v ↦ puts_as (rule_negative n r w.0 w.1 (omega arith)) (puts_then (puts_then c.put_bytes.ensures v.put_byte.ensures) (rw v.text-is at c.put_bytes-2.ensures))
      | else-negated v ↦ puts_as (rule_positive n r w.0 w.1 (omega arith)) (puts_then c.put_bytes.ensures (rw v.text-is at c.put_bytes-2.ensures))
    ]
