-- `answers::put_answer` meets its contract: five writes. Assumes nothing.
use mathlib.Core.Path.{ap}
use mathlib.Core.List.{[], ◌∷◌}
use Prim.Native.Nat.{ℕ}
use native.Mathlib.Omega.{arith}
use Rattle.fixpoint.specs.Interval.{Interval}
use Rattle.semantics.proofs.TextNumbers.{number_short}
use Rattle.print.proofs.Writing.{puts_then, puts_as, puts_room}
use Rattle.solve.specs.Asked.{reading_of}
use Rattle.semantics.specs.Output.{Query}
use Rattle.answers.proofs.PrintedLines.{answer_text, field_passed}
use Rattle.answers.proofs.put_answer.Goals as goal

pub put_field-requires : goal.put_field-requires
put_field-requires c =
    let room = puts_room 12 (puts_then c.put_byte.ensures c.put_byte-2.ensures) (omega (arith, c.requires.0)) in
    omega (arith, number_short c.args.c c.requires.1)

pub put_field-requires-2 : goal.put_field-requires-2
put_field-requires-2 c =
    let room = puts_room 12 (puts_then c.put_byte.ensures c.put_byte-2.ensures) (omega (arith, c.requires.0)) in
    let room = field_passed c.requires.1 44 8 c.put_field.ensures room in
    omega (arith, number_short c.args.ends.low c.requires.2)

pub put_field-requires-3 : goal.put_field-requires-3
put_field-requires-3 c =
    let room = puts_room 12 (puts_then c.put_byte.ensures c.put_byte-2.ensures) (omega (arith, c.requires.0)) in
    let room = field_passed c.requires.2 44 4 c.put_field-2.ensures (field_passed c.requires.1 44 8 c.put_field.ensures room) in
    omega (arith, number_short c.args.ends.high c.requires.3)

pub returns : goal.returns
returns c =
    let q : Query = record { reading = reading_of c.args.reading; condition = c.args.c } in
    let p : Interval = record { low = c.args.ends.low; high = c.args.ends.high } in
    let name = puts_as (ap (λ (b : ℕ). b ∷ []) c.letter.ensures) c.put_byte.ensures in
    puts_as (answer_text q p)
    (puts_then (puts_then (puts_then (puts_then name c.put_byte-2.ensures) c.put_field.ensures) c.put_field-2.ensures) c.put_field-3.ensures)
