-- `followers::followers_of` meets its contract: each pass but the last adds a condition, and there are 512. Assumes nothing.
use Prim.Native.Nat.{◌-◌}
use Rattle.fixpoint.specs.Sum.{count}
use Rattle.semantics.specs.Area.{page_of}
use Rattle.bits.specs.Words.{has}
use Rattle.followers.specs.Rows.{Covers, Seeks}
use Rattle.followers.proofs.followers_of.Given as goal

abbrev pub invariant-loop-seen : goal.invariant-loop-seen
invariant-loop-seen l = Covers l.seen.words l.row.words × Seeks (page_of l.page) l.c l.seen.words l.row.words

abbrev pub decreases-loop-seen : goal.decreases-loop-seen
decreases-loop-seen l = 512 - count 512 (has l.row.words)
