-- `season::sums_of` meets its contract. The loop's invariant: with the answers still to come the sums are those of the whole list. Assumes nothing.
use mathlib.Core.Path.{◌≡◌}
use Rattle.std.specs.Slice.Iter.{chunks_exact_rest, chunks_exact_size}
use Rattle.semantics.specs.Season.{pairs_in}
use Rattle.season.proofs.Growing.{Summing}
use Rattle.season.proofs.sums_of.Given as goal

abbrev pub invariant-loop-pair : goal.invariant-loop-pair
invariant-loop-pair l = (chunks_exact_size l.pair-iterator ≡ 2) × Summing (pairs_in l.pairs) (chunks_exact_rest l.pair-iterator) l.before l.sums
