-- `check_lines` meets its contract: a turn checks one line, `Checking`. Assumes nothing.
use Prim.Native.Nat.{◌-◌}
use lib.ListN.{length}
use Rattle.list.proofs.Passes.{Checking}
use Rattle.list.proofs.check.check_lines.Given as goal

abbrev pub invariant-loop-at : goal.invariant-loop-at
invariant-loop-at l = Checking l.bytes l.limits.top l.limits.conditions l.at l.line l.before

abbrev pub decreases-loop-at : goal.decreases-loop-at
decreases-loop-at l = length l.bytes - l.at
