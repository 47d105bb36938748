-- The goals of the cycle of calls {put_number}. Assumes nothing.
use Rattle.std.proofs.Common.{length, ap, arith}
use Rattle.semantics.proofs.TextNumbers.{number_one, number_more, number_length}
use Rattle.print.proofs.Writing.{puts_then, puts_room}
use Rattle.print.proofs.Text.+put_number.Goals as goal

pub put_digit-requires : goal.put_digit-requires
put_digit-requires t c = (omega (arith, c.requires, ap length (number_one c.args.n (omega arith))), omega arith)

pub returns-then-n-lt10 : goal.returns-then-n-lt10
returns-then-n-lt10 t c = rw (number_one c.args.n (omega arith)) c.put_digit.ensures

pub put_number-requires : goal.put_number-requires
put_number-requires t c = let h = number_length c.args.n (omega arith) in (omega arith, omega arith)

pub put_digit-requires-2 : goal.put_digit-requires-2
put_digit-requires-2 t c = let h = number_length c.args.n (omega arith) in (puts_room 1 c.put_number.ensures (omega arith), omega arith)

pub returns : goal.returns
returns t c = rw (number_more c.args.n (omega arith)) (puts_then c.put_number.ensures c.put_digit-2.ensures)
