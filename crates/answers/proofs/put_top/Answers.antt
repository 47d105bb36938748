-- `answers::put_top` meets its contract: two writes. Assumes nothing.
use native.Mathlib.Omega.{arith}
use Rattle.semantics.proofs.TextNumbers.{number_short}
use Rattle.print.proofs.Writing.{puts_room}
use Rattle.answers.proofs.put_top.Goals as goal

pub put_field-requires : goal.put_field-requires
put_field-requires c = puts_room _ c.put_bytes.ensures (omega (arith, number_short c.args.top c.requires.1, c.requires.0))
