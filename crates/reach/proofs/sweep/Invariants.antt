-- `sweep` meets its contract. The loop's invariant: what the passed lines of marked conditions name is marked.
use mathlib.Core.Path.{◌≡◌}
use Rattle.reach.proofs.Sweeping.{Sweeping}
use Rattle.reach.proofs.sweep.Given as goal

abbrev pub invariant-loop-at : goal.invariant-loop-at
invariant-loop-at l = (l.at-iterator.numbers.now ≡ l.page) × Sweeping l.page l.initial.marks l.marks l.at-iterator.at l.at-iterator.passed l.new
