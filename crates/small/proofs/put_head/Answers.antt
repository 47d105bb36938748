-- `small::put_head` meets its contract. Assumes nothing.
use mathlib.Core.Path.{sym}
use native.Mathlib.Omega.{arith}
use Rattle.print.proofs.Writing.{puts_as}
use Rattle.small.proofs.Texts.{head_text}
use Rattle.small.proofs.put_head.Goals as goal

pub returns : goal.returns
returns c = puts_as (sym (head_text c.args.n (omega arith))) c.put_bytes.ensures
