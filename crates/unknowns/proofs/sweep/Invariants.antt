-- `sweep` looks at one line after the other (`Sweeping`).
use mathlib.Core.Path.{◌≡◌}
use Rattle.unknowns.proofs.Sweeping.{Sweeping}
use Rattle.unknowns.proofs.sweep.Given as goal

abbrev pub invariant-loop-at : goal.invariant-loop-at
invariant-loop-at l = (l.at-iterator.numbers.now ≡ l.page) × Sweeping l.page l.marks l.values l.initial.next l.next l.at-iterator.at l.at-iterator.passed
