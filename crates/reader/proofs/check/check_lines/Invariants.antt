-- `check_lines` meets its contract: a turn checks one line, `Checking`. Assumes nothing.
use Rattle.std.proofs.Common.{◌+◌, ◌-◌, length}
use Rattle.reader.proofs.Passes.{Checking}
use Rattle.reader.proofs.check.check_lines.Given as goal

abbrev pub invariant-loop-at : goal.invariant-loop-at
invariant-loop-at l = Checking l.bytes l.head.next l.head.top l.head.conditions l.seen.words l.at l.line l.used

abbrev pub decreases-loop-at : goal.decreases-loop-at
decreases-loop-at l = length l.bytes + 1 - l.at
