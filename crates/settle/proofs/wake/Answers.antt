-- `wake` inserts the heads of the rules that have the literal (`woken_by`), or does nothing.
use native.Mathlib.Omega.{arith}
use Rattle.settle.proofs.Waking.{joined_next, heads_small, woken_by}
use Rattle.settle.proofs.wake.Goals as goal

pub insert-requires : goal.insert-requires
insert-requires c = heads_small _ c.in-Some.ensures.sound _ c.in-Some.ensures.found.1 c.loop-h.h-index (omega arith)

pub loop-h-preserved : goal.loop-h-preserved
loop-h-preserved c =
    joined_next (λ j l. heads_small _ c.in-Some.ensures.sound _ c.in-Some.ensures.found.1 j (omega (arith, l))) c.loop-h.invariant c.insert.ensures.set

pub returns-after-loop-h : goal.returns-after-loop-h
returns-after-loop-h c =
    woken_by _ c.in-Some.ensures.sound _ c.in-Some.ensures.found.1 c.in-Some.ensures.found.0 (omega arith) c.requires.1 c.loop-h.invariant
