-- `bits::Set::len` meets its contract. The loop's invariant: the ones of the words passed are counted. Assumes nothing.
use Rattle.std.proofs.Common.{◌≡◌, ℕ, ◌*◌, ◌^◌, ◌≤◌, ◌<◌, get_or}
use lib.Count.{ones}
use Rattle.fixpoint.specs.Sum.{sum}
use Rattle.bits.proofs.Set.len.Given as goal

abbrev pub invariant-loop-x : goal.invariant-loop-x
invariant-loop-x l =
    (l.ones ≡ sum l.x-index (λ w. ones (get_or l.self.words w 0))) × (l.ones ≤ 64 * l.x-index) × ((v : ℕ) → v < l.x-index → get_or l.self.words v 0 < 2 ^ 64)
