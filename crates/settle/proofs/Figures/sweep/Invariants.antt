-- `sweep` raises the ends of the heads line by line, in page order (`Sweeping`).
use mathlib.Core.Path.{◌≡◌}
use Rattle.value.specs.Table.{side}
use Rattle.settle.proofs.Looking.{Sweeping}
use Rattle.settle.proofs.Figures.sweep.Given as goal

abbrev pub invariant-loop-at : goal.invariant-loop-at
invariant-loop-at l =
    (l.at-iterator.numbers.now ≡ l.page) × Sweeping (side l.self.end) l.page l.marks l.initial.scratch l.scratch l.at-iterator.at l.at-iterator.passed l.rose
