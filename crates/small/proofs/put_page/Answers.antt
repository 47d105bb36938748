-- `small::put_page` meets its contract: the head, then the lines. Assumes nothing.
use mathlib.Core.Path.{ap}
use lib.ListN.{length}
use native.Mathlib.Omega.{arith}
use Rattle.print.proofs.Writing.{puts_then, puts_room, puts_as}
use Rattle.small.proofs.Texts.{head_text, page_of_one, page_of_two}
use Rattle.small.proofs.put_page.Goals as goal

pub put_lines-requires : goal.put_lines-requires
put_lines-requires c =
    (puts_room 22 c.put_head.ensures (omega (arith, ap length (head_text 1 (omega arith)))), omega arith, omega arith, omega arith)

pub returns-then-number-lt31 : goal.returns-then-number-lt31
returns-then-number-lt31 c = puts_as (page_of_one c.args.number (omega arith)) (puts_then c.put_head.ensures c.put_lines.ensures)

pub put_lines-requires-2 : goal.put_lines-requires-2
put_lines-requires-2 c =
    (puts_room 22 c.put_head-2.ensures (omega (arith, ap length (head_text 2 (omega arith)))), omega arith, omega arith, omega arith)

pub returns : goal.returns
returns c = puts_as (page_of_two c.args.number (omega arith)) (puts_then c.put_head-2.ensures c.put_lines-2.ensures)
