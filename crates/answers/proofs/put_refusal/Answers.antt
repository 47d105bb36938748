-- `answers::put_refusal` meets its contract: three writes. Assumes nothing.
use native.Mathlib.Omega.{arith}
use Rattle.semantics.proofs.TextNumbers.{number_short, number_four}
use Rattle.print.proofs.Writing.{puts_then, puts_as, puts_room}
use Rattle.answers.proofs.PrintedLines.{refusal_text, field_passed}
use Rattle.answers.proofs.put_refusal.Goals as goal

pub put_field-requires : goal.put_field-requires
put_field-requires c = puts_room _ c.put_bytes.ensures (omega (arith, number_short c.args.number c.requires.1, c.requires.0))

pub put_field-requires-2 : goal.put_field-requires-2
put_field-requires-2 c =
    let room = field_passed c.requires.1 44 5 c.put_field.ensures (puts_room 9 c.put_bytes.ensures (omega (arith, c.requires.0))) in
    omega (arith, number_four c.args.line c.requires.2)

pub returns : goal.returns
returns c = puts_as (refusal_text c.args.number c.args.line) (puts_then (puts_then c.put_bytes.ensures c.put_field.ensures) c.put_field-2.ensures)
