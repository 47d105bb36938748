-- `solve::note_queries` meets its contract: a turn passes one line (`Noting`). Assumes nothing.
use mathlib.Core.Path.{◌≡◌}
use Rattle.solve.proofs.Noting.{Noting}
use Rattle.solve.proofs.note_queries.Given as goal

abbrev pub invariant-loop-at : goal.invariant-loop-at
invariant-loop-at l = (l.at-iterator.numbers.now ≡ l.page) × Noting l.page l.at-iterator.at l.at-iterator.passed l.queries l.k
