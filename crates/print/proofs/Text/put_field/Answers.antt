-- `print::Text::put_field` meets its contract: two writes. Assumes nothing.
use Rattle.print.proofs.Writing.{puts_then, puts_room}
use Rattle.print.proofs.Text.put_field.Goals as goal

pub put_byte-requires : goal.put_byte-requires
put_byte-requires c = puts_room 1 c.put_number.ensures c.requires

pub returns : goal.returns
returns c = puts_then c.put_number.ensures c.put_byte.ensures
