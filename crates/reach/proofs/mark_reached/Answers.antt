-- `mark_reached` meets its contract: each pass but the last marks a condition, and there are 512.
use native.Mathlib.Omega.{arith}
use Rattle.semantics.specs.Area.{page_of}
use Rattle.semantics.specs.Table.{member}
use Rattle.page.proofs.Solvable.{solvable_proper}
use Rattle.reach.proofs.Closing.{spreading_first, spreading_next, spreading_last}
use Rattle.reach.proofs.Inserting.{size_most}
use Rattle.reach.proofs.Naming.{queries_few}
use Rattle.reach.proofs.mark_reached.Goals as goal

pub insert_queries-requires : goal.insert_queries-requires
insert_queries-requires c = queries_few _ c.recall.ensures c.args.queries.now c.requires.0

pub loop-init : goal.loop-init
unfolding page_of
loop-init c =
    let i = c.insert_queries in
    let w = solvable_proper _ c.recall.ensures in
    spreading_first (page_of c.args.page.now) c.args.queries.now w c.requires.0 _ _ c.requires.1 i.ensures i.array_long

pub loop-preserved : goal.loop-preserved
unfolding page_of
loop-preserved c =
    let w = solvable_proper _ c.recall.ensures in
    spreading_next (page_of c.args.page.now) c.args.queries.now w c.requires.0 c.loop.invariant (rw c.again.ensures at c.sweep.ensures) c.sweep.array_long

pub loop-smaller : goal.loop-smaller
loop-smaller c = omega (arith, c.sweep.ensures.counted, size_most 512 (member c.sweep.new.marks))

pub returns : goal.returns
unfolding page_of
returns c =
    let w = solvable_proper _ c.recall.ensures in
    spreading_last (page_of c.args.page.now) c.args.queries.now w c.requires.0 c.loop.invariant (rw c.again.ensures at c.sweep.ensures) c.sweep.array_long (omega arith)
