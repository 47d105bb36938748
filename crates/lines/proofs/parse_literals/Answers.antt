-- `parse_literals` meets its contract: the loop reads one literal a turn, `Counting`. Assumes nothing.
use Rattle.std.proofs.Common.{refl, sym, ◌∙◌, ap, arith}
use Rattle.fields.specs.Cursor.{class_of}
use Rattle.fields.proofs.Tokens.{comma_class, newline_class}
use Rattle.lines.proofs.LiteralFields.{too_many, not_literal, byte_behind, not_ended, counting_more, counting_last}
use Rattle.lines.proofs.parse_literals.Goals as goal

pub returns-in_err-literal : goal.returns-in_err-literal
returns-in_err-literal c = let a = c.args in rw c.from_residual.ensures (not_literal a.bytes.now a.at c.loop-count.invariant.2.passed c.in_err-literal.ensures)

pub returns-in-10 : goal.returns-in-10
returns-in-10 c =
    let a = c.args in
    let w = c.loop-count.invariant in
    let d = sym (byte_behind a.bytes.now a.at a.conditions w.2 c.in_ok-literal.ensures) ∙ c.in-10.is in
    rw c.far_with-far.ensures (rw w.1 at (counting_last a.bytes.now a.at a.conditions w.2 c.in_ok-literal.ensures (ap class_of d ∙ newline_class) (omega (arith, w.1, c.loop-count-test.true)) d))

pub returns-in_default : goal.returns-in_default
returns-in_default c =
    let a = c.args in
    let w = c.loop-count.invariant.2 in
    not_literal a.bytes.now a.at w.passed (not_ended a.bytes.now a.at a.conditions w c.in_ok-literal.ensures (λ z. omega arith) (λ z. omega arith))

pub loop-count-preserved : goal.loop-count-preserved
loop-count-preserved c =
    let a = c.args in
    let w = c.loop-count.invariant in
    let d = sym (byte_behind a.bytes.now a.at a.conditions w.2 c.in_ok-literal.ensures) ∙ c.in-44.is in
    (c.loop-count.count, refl, rw c.far_with-far.ensures (rw w.1 at (counting_more a.bytes.now a.at a.conditions w.2 c.in_ok-literal.ensures (ap class_of d ∙ comma_class) d)))

pub returns : goal.returns
returns c =
    let a = c.args in
    let w = c.loop-count.invariant in
    too_many a.bytes.now a.at w.2.passed (omega (arith, w.1, c.loop-count-test.false))
