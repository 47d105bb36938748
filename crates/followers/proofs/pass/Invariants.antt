-- `followers::pass` meets its contract: the lines behind are followed. Assumes nothing.
use mathlib.Core.Path.{◌≡◌}
use Rattle.followers.proofs.Passing.{Passing}
use Rattle.followers.proofs.pass.Given as goal

abbrev pub invariant-loop-at : goal.invariant-loop-at
invariant-loop-at l =
    (l.at-iterator.numbers.now ≡ l.page) × Passing l.page l.initial.seen.words l.initial.row.words l.seen.words l.row.words l.at-iterator.at l.at-iterator.passed l.new
