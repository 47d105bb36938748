-- `print::put_all` meets its contract. Assumes nothing.
use Rattle.std.proofs.Common.{refl, arith}
use Rattle.print.proofs.Writing.{wrote_more, wrote_all}
use Rattle.print.proofs.put_all.Goals as goal

pub loop-i-init : goal.loop-i-init
loop-i-init g c = record { is = refl; behind = omega arith; room = omega arith }

pub loop-i-preserved : goal.loop-i-preserved
loop-i-preserved g c = wrote_more _ _ _ c.index-items-i.is c.loop-i.invariant (omega arith) c.loop-i-test.true

pub returns : goal.returns
returns g c = wrote_all _ c.loop-i.i (omega arith) c.loop-i.invariant
