-- `bits::Set::any_from` meets its contract. The loop's invariant: the words passed, in turn from that of `from` on, are 0. Assumes nothing.
use Rattle.std.proofs.Common.{◌≡◌, ℕ, ◌+◌, ◌/◌, ◌%◌, ◌<◌, get_or}
use Rattle.bits.proofs.Set.any_from.Given as goal

abbrev pub invariant-loop-passed : goal.invariant-loop-passed
invariant-loop-passed l = (p : ℕ) → p < l.passed → get_or l.self.words ((l.from / 64 + p) % 8) 0 ≡ 0
