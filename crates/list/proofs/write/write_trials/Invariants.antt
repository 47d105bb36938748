-- `write_trials` meets its contract: a turn writes one line, `Writing`. Assumes nothing.
use Prim.Native.Nat.{◌-◌}
use lib.ListN.{length}
use Rattle.list.proofs.Writes.{Writing}
use Rattle.list.proofs.write.write_trials.Given as goal

abbrev pub invariant-loop-at : goal.invariant-loop-at
invariant-loop-at l = Writing l.bytes l.initial.list l.list l.at l.end

abbrev pub decreases-loop-at : goal.decreases-loop-at
decreases-loop-at l = length l.bytes - l.at
