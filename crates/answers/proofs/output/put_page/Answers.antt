-- `answers::put_page` meets its contract: both readings, the first line, the answers, the last line. Assumes nothing.
use native.Mathlib.Omega.{arith}
use Rattle.semantics.proofs.Outputs.{top_short}
use Rattle.semantics.proofs.TextNumbers.{number_four}
use Rattle.print.proofs.Writing.{puts_room}
use Rattle.answers.proofs.Printing.{count_few, lines_few, puts_page}
use Rattle.answers.proofs.output.put_page.Goals as goal

pub put_lines-count-requires : goal.put_lines-count-requires
put_lines-count-requires c =
    puts_room _ c.put_top.ensures
    (omega (arith, c.requires.1, top_short c.top.result (omega (arith, c.top.ensures.grade)), count_few c.args.page.now c.requires.0))

pub put_end-requires : goal.put_end-requires
put_end-requires c =
    let l = c.put_lines-count.ensures in
    let few = lines_few c.args.page.now c.requires.0 in
    puts_room _ l.wrote (puts_room _ c.put_top.ensures
    (omega (
      arith,
      c.requires.1,
      top_short c.top.result (omega (arith, c.top.ensures.grade)),
      l.short,
      few,
      number_four c.put_lines-count.result (omega (arith, l.counted, few)),
    )))

pub returns : goal.returns
returns c = puts_page c.args.page.now (rw c.top.ensures.value at c.put_top.ensures) c.put_lines-count.ensures c.put_end.ensures
