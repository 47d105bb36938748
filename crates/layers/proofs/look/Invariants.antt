-- `layers::look` meets its contract: the lines behind are looked at. Assumes nothing.
use mathlib.Core.Path.{◌≡◌}
use Rattle.layers.proofs.Looking.{Searching}
use Rattle.layers.proofs.look.Given as goal

abbrev pub invariant-loop-at : goal.invariant-loop-at
invariant-loop-at l = (l.at-iterator.numbers.now ≡ l.page) × Searching l.page l.levels l.level l.at-iterator.at l.at-iterator.passed l.negated
