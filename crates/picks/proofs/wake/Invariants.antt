-- `wake` meets its contract. The loop's invariant: those woken so far and those of the lines still to come are all.
use mathlib.Core.Path.{◌≡◌}
use Rattle.picks.proofs.Waking.{Waking}
use Rattle.picks.proofs.wake.Given as goal

abbrev pub invariant-loop-at : goal.invariant-loop-at
invariant-loop-at l = (l.at-iterator.numbers.now ≡ l.page) × Waking l.page l.c l.reached.words l.initial.waiting.words l.waiting.words l.at-iterator.at l.at-iterator.passed
