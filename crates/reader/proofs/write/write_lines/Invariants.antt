-- `write_lines` meets its contract: a turn writes one entry, `Writing`. Assumes nothing.
use Prim.Native.Nat.{◌+◌, ◌-◌}
use lib.ListN.{length}
use Rattle.reader.proofs.Entries.{Writing}
use Rattle.reader.proofs.write.write_lines.Given as goal

abbrev pub invariant-loop-at : goal.invariant-loop-at
invariant-loop-at l = Writing l.bytes l.from l.initial.area l.start l.area l.at l.used

abbrev pub decreases-loop-at : goal.decreases-loop-at
decreases-loop-at l = length l.bytes + 1 - l.at
