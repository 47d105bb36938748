-- `bits::Set::absorb` meets its contract. The loop's invariant: the words passed are joined. Assumes nothing.
use Rattle.bits.proofs.Sets.{Changing, Joined, JoinedNew}
use Rattle.bits.proofs.Set.absorb.Given as goal

abbrev pub invariant-loop-k : goal.invariant-loop-k
invariant-loop-k l =
    Changing l.initial.self.words (Joined l.named.words l.initial.self.words l.initial.waiting.words) l.self.words l.k
    × Changing l.initial.waiting.words (JoinedNew l.named.words l.initial.self.words l.initial.waiting.words) l.waiting.words l.k
