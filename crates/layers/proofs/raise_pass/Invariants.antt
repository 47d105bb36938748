-- `layers::raise_pass` meets its contract: the lines behind are passed. Assumes nothing.
use mathlib.Core.Path.{◌≡◌}
use Rattle.layers.proofs.Raises.{Passing}
use Rattle.layers.proofs.raise_pass.Given as goal

abbrev pub invariant-loop-at : goal.invariant-loop-at
invariant-loop-at l = (l.at-iterator.numbers.now ≡ l.page) × Passing l.page l.initial.layers l.layers l.at-iterator.at l.at-iterator.passed l.most
