-- `insert_named` meets its contract. The loop's invariant: what the lines passed name is gathered.
use mathlib.Core.Path.{◌≡◌}
use Rattle.reach.proofs.Visiting.{Gathering}
use Rattle.reach.proofs.insert_named.Given as goal

abbrev pub invariant-loop-at : goal.invariant-loop-at
invariant-loop-at l = (l.at-iterator.numbers.now ≡ l.page) × Gathering l.page l.c l.initial.set.words l.set.words l.at-iterator.at l.at-iterator.passed l.new
