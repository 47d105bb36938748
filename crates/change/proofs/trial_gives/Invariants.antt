-- `trial_gives` meets its contract. The loop's invariant: what the lines passed give stands unless a line still to come gives something.
-- Assumes nothing.
use mathlib.Core.Path.{◌≡◌}
use Rattle.std.specs.Slice.Iter.{chunks_exact_rest, chunks_exact_size}
use Rattle.change.specs.Trial.{given_of}
use Rattle.change.proofs.Giving.{Giving}
use Rattle.change.proofs.trial_gives.Given as goal

abbrev pub invariant-loop-line : goal.invariant-loop-line
invariant-loop-line l = (chunks_exact_size l.line-iterator ≡ 4) × Giving l.lines l.c (chunks_exact_rest l.line-iterator) (given_of l.given)
