-- `keep_lines` meets its contract. The loop's invariant: those of the lines passed that stay are written. Assumes nothing.
use mathlib.Core.Path.{◌≡◌}
use Rattle.change.specs.Trial.{lines_in}
use Rattle.change.proofs.Keeping.{Keeping}
use Rattle.change.proofs.keep_lines.Given as goal

abbrev pub invariant-loop-at : goal.invariant-loop-at
invariant-loop-at l = (l.at-iterator.numbers.now ≡ l.page) × Keeping l.page (lines_in l.lines) l.initial.entries l.at-iterator.at l.at-iterator.passed l.entries
