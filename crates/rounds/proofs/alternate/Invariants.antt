-- `alternate` makes rounds until one moves no end that is read again (`Alternating`).
use mathlib.Core.Path.{◌≡◌}
use lib.ListN.{length}
use Rattle.rounds.specs.Round.{LowsWait, to_learn}
use Rattle.rounds.proofs.Rounding.{Alternating}
use Rattle.rounds.proofs.alternate.Given as goal

abbrev pub invariant-loop-lows : goal.invariant-loop-lows
invariant-loop-lows l = Alternating l.source.area l.marks l.initial.scratch l.scratch × LowsWait l.source.area l.marks l.source.indexed l.scratch l.lows.words × (length l.next ≡ length l.initial.next)

abbrev pub decreases-loop-lows : goal.decreases-loop-lows
decreases-loop-lows l = to_learn l.source.area l.scratch
