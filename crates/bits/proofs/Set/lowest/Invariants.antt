-- `bits::Set::lowest` meets its contract. The loop's invariant: the words passed are 0. Assumes nothing.
use Rattle.std.proofs.Common.{◌≡◌, ℕ, ◌<◌, get_or}
use Rattle.bits.proofs.Set.lowest.Given as goal

abbrev pub invariant-loop-w : goal.invariant-loop-w
invariant-loop-w l = (v : ℕ) → v < l.w → get_or l.self.words v 0 ≡ 0
