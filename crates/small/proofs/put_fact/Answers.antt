-- `small::put_fact` meets its contract. Assumes nothing.
use mathlib.Core.Path.{sym}
use Prim.Native.Nat.{◌+◌, ◌/◌, ◌%◌}
use native.Mathlib.Omega.{arith}
use Rattle.print.proofs.Writing.{puts_as}
use Rattle.small.proofs.Texts.{fact_text}
use Rattle.small.proofs.put_fact.Goals as goal

pub returns : goal.returns
returns c =
    let r = c.args.r in
    puts_as (sym (fact_text (r / 3) (r % 3 / 2) ((r % 3 + 1) / 2) (omega arith) (omega arith) (omega arith))) c.put_bytes.ensures
