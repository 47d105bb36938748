-- `write_literals` meets its contract: the loop writes one code a turn, `Putting`. Assumes nothing.
use Prim.Native.Nat.{◌-◌}
use lib.ListN.{length}
use Rattle.reader.proofs.LiteralCodes.{Putting}
use Rattle.reader.proofs.write.write_literals.Given as goal

abbrev pub invariant-loop-e : goal.invariant-loop-e
invariant-loop-e l = Putting l.bytes l.at l.initial.area l.start l.area l.end l.i

abbrev pub decreases-loop-e : goal.decreases-loop-e
decreases-loop-e l = length l.bytes - l.i
