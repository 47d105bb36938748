-- `print::put_all` meets its contract. The loop's invariant: the items passed are written. Assumes nothing.
use Rattle.std.proofs.Common.{◌+◌, take}
use Rattle.print.specs.Wrote.{Wrote}
use Rattle.print.proofs.put_all.Given as goal

abbrev pub invariant-loop-i : goal.invariant-loop-i
invariant-loop-i g l = Wrote l.initial.out l.at (take l.i l.items) l.out (l.at + l.i)
