-- `followers::followers_of` meets its contract: each pass but the last adds a condition, and there are 512. Assumes nothing.
use native.Mathlib.Omega.{arith}
use Rattle.semantics.specs.Area.{page_of}
use Rattle.page.proofs.Head.{head_of}
use Rattle.bits.specs.Words.{has}
use Rattle.reach.proofs.Inserting.{size_most}
use Rattle.followers.proofs.Settled.{settled_row}
use Rattle.page.proofs.Solvable.{solvable_proper}
use Rattle.followers.proofs.followers_of.Goals as goal

pub insert-requires : goal.insert-requires
insert-requires c = omega (arith, (head_of _ c.recall.ensures).few)

pub loop-seen-smaller : goal.loop-seen-smaller
loop-seen-smaller c = omega (arith, c.pass.ensures.counted, size_most 512 (has c.pass.new.row.words))

pub returns : goal.returns
unfolding page_of
returns c = settled_row (page_of c.args.page.now) (solvable_proper c.args.page.now c.recall.ensures) c.args.c c.requires c.loop-seen.invariant.1 c.pass.ensures c.loop-seen-test.false
