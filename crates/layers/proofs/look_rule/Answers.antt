-- `layers::look_rule` meets its contract: the literals behind are of the part or done. Assumes nothing.
use native.Mathlib.Omega.{arith}
use Rattle.layers.proofs.Literals.{codes_length, code_at, code_below}
use Rattle.layers.proofs.Looking.{looking_part, looking_done, looking_last}
use Rattle.layers.proofs.look_rule.Goals.{then-l-level, else-l-level+else-l-ne513}
use Rattle.layers.proofs.look_rule.Goals as goal

pub bounds-levels-code : goal.bounds-levels-code
bounds-levels-code c =
    let s = c.literals-code-items.ensures in
    omega (arith, code_below c.args.page.now s.sound c.requires.0 s.value c.loop-code.code-index (omega arith))

pub loop-code-preserved : goal.loop-code-preserved
loop-code-preserved c =
    let h = c.loop-code in
    let s = c.literals-code-items.ensures in
    let l = codes_length c.args.page.now s.sound c.requires.0 s.value in
    let e = code_at c.args.page.now s.sound c.requires.0 s.value h.code-index (omega arith) in
    elim c.if-l-level.branch [
      | then-l-level w ↦ rw (w.negated-is, e) (looking_part _ _ _ _ h.invariant (omega arith) (rw e at w.if-l-level.true))
      | else-l-level+else-l-ne513 w ↦ rw w.negated-is (looking_done _ _ _ _ h.invariant (omega arith) (rw e at w.if-l-level.false) (rw e at w.if-l-ne513.false))
    ]

pub returns : goal.returns
returns c =
    let s = c.literals-code-items.ensures in
    looking_last _ _ _ _ c.loop-code.invariant (omega (arith, codes_length c.args.page.now s.sound c.requires.0 s.value))
