-- `digit` meets its contract. Assumes nothing.
use Rattle.std.proofs.Common.{◌+◌, ◌%◌, refl, arith}
use Rattle.fields.proofs.Numbers.{a_digit, other_byte}
use Rattle.fields.proofs.digit.Goals as goal

pub returns-in-0-to-9 : goal.returns-in-0-to-9
returns-in-0-to-9 c = a_digit c.args.b ((c.args.b + 4294967248) % 4294967296) (omega arith) refl (omega arith)

pub returns-in_default : goal.returns-in_default
returns-in_default c = other_byte c.args.b ((c.args.b + 4294967248) % 4294967296) (omega arith) refl (omega arith)
