-- `drain` takes out one that waits after the other (`Draining`).
use native.Mathlib.Omega.{arith}
use Rattle.bits.proofs.Members.{fewer}
use Rattle.index.proofs.Lookup.{area_is}
use Rattle.settle.proofs.Members.{few_wait}
use Rattle.settle.proofs.Draining.{draining_rose, draining_still, draining_last}
use Rattle.settle.proofs.Figures.drain.Goals as goal

pub loop-c-smaller-then-look : goal.loop-c-smaller-then-look
loop-c-smaller-then-look c = let l = rw (c.again-page.ensures, area_is c.source.view_is) at c.look.ensures in omega (arith, l.moves c.if-look.true, few_wait c.wake.new.words.words)

pub loop-c-preserved-then-look : goal.loop-c-preserved-then-look
loop-c-preserved-then-look c =
    let f = c.in-Some.ensures in
    let g = rw c.unwrap-places.ensures at c.lines_of.ensures in
    (f.within, draining_rose c.loop-c.invariant.1 f _ c.remove.ensures g.found.1 (rw (c.again-page.ensures, area_is c.source.view_is) at c.look.ensures) c.requires.2 c.wake.ensures c.if-look.true)

pub loop-c-smaller : goal.loop-c-smaller
loop-c-smaller c =
    let f = c.in-Some.ensures in
    let l = rw (c.again-page.ensures, area_is c.source.view_is) at c.look.ensures in rw (l.still c.if-look.false) (omega (arith, fewer _ _ _ c.remove.ensures f.within f.found))

pub loop-c-preserved : goal.loop-c-preserved
loop-c-preserved c =
    let f = c.in-Some.ensures in
    let g = rw c.unwrap-places.ensures at c.lines_of.ensures in
    (f.within, draining_still c.loop-c.invariant.1 f _ c.remove.ensures g.found.1 (rw (c.again-page.ensures, area_is c.source.view_is) at c.look.ensures) c.if-look.false)

pub returns : goal.returns
returns c = let i = c.loop-c.invariant.1 in (draining_last i c.in_default.ensures, i.waiting.set)
