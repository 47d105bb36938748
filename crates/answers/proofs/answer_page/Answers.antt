-- `answers::answer_page` meets its contract: the output is made, and copied if there is room. Assumes nothing.
use native.Mathlib.Omega.{arith}
use Rattle.print.proofs.Writing.{puts_fits}
use Rattle.answers.proofs.Printing.{prints_whole, prints_nothing}
use Rattle.answers.proofs.answer_page.Goals as goal
use Rattle.answers.proofs.answer_page.Goals.{then-output-out, else-output-out}

pub written-requires : goal.written-requires
written-requires c = puts_fits c.put_output.ensures.wrote

pub returns : goal.returns
returns c =
    let p = c.put_output.ensures in
    let z = c.new-output.ensures.place in
    elim c.if-output-out.branch [
      | then-output-out w ↦ rw w.out-is (prints_whole z p (omega arith) w.written.ensures w.put_all.ensures)
      | else-output-out w ↦ rw w.out-is (prints_nothing z p c.args.out.now (omega arith))
    ]
