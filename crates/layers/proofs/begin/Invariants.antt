-- `layers::begin` meets its contract: the lines behind are passed. Assumes nothing.
use mathlib.Core.Path.{◌≡◌}
use Rattle.layers.proofs.Beginning.{Beginning}
use Rattle.layers.proofs.begin.Given as goal

abbrev pub invariant-loop-at : goal.invariant-loop-at
invariant-loop-at l = (l.at-iterator.numbers.now ≡ l.page) × Beginning l.page l.levels l.at-iterator.at l.at-iterator.passed
