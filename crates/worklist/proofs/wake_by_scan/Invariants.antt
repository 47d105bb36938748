-- `worklist::wake_by_scan` meets its contract. The loop's invariant: what the lines still to come make of the area now is what all lines make of the area at entry, and the set follows the marks. Assumes nothing.
use mathlib.Core.Path.{◌≡◌}
use Rattle.semantics.specs.Area.{conditions_of}
use Rattle.worklist.specs.Waiting.{StillMatches}
use Rattle.worklist.proofs.Marking.{Marking}
use Rattle.worklist.proofs.wake_by_scan.Given as goal

abbrev pub invariant-loop-at : goal.invariant-loop-at
invariant-loop-at l =
    (l.at-iterator.numbers.now ≡ l.page) × Marking l.page l.c l.initial.run l.run l.at-iterator.at l.at-iterator.passed
    × StillMatches (conditions_of l.page) l.initial.run l.initial.waiting.words l.run l.waiting.words
