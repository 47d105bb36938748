-- `checked_number` meets its contract, by the laws of `ReadDigits`. Assumes nothing.
use Rattle.fields.proofs.ReadDigits.{digit_byte, first_digit}
use Rattle.fields.proofs.checked_number.Goals as goal

pub overflow_sub-first : goal.overflow_sub-first
overflow_sub-first c = let a = c.args in (digit_byte a.bytes.now a.at c.requires.0 c.requires.1).0

pub digits_from-requires : goal.digits_from-requires
digits_from-requires c = let a = c.args in first_digit a.bytes.now a.at c.requires.0 c.requires.1
