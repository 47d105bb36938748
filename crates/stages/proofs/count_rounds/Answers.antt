-- `count_rounds` goes from assignment to assignment until the floor does not move (`Rounding`).
use mathlib.Core.Bool.{Bool, true, false}
use Prim.Native.Nat.{◌≤◌}
use Rattle.std.proofs.Common.{add-zero}
use native.Mathlib.Omega.{arith}
use mir.Val.{bool_byte}
use Rattle.index.proofs.Lookup.{area_is}
use Rattle.fixpoint.proofs.Cond.{by_bool}
use Rattle.stages.proofs.Advancing.{free_told}
use Rattle.stages.proofs.Counting.{tops_small, tops_are, stage_begins, rounding_first, counted_from, rounds_small, rounds_less, rounds_next, rounds_here, rounds_after}
use Rattle.stages.proofs.count_rounds.Goals as goal

pub copy_tops-requires : goal.copy_tops-requires
copy_tops-requires c = let p = rw (← c.source.view_is) at c.requires in (p.0.long, p.0.marked, p.1, tops_small c.conditions-n.ensures.sound p.0)

pub loop-look-init : goal.loop-look-init
loop-look-init c =
    let p = c.requires.0 in
    let e = area_is c.source.view_is in
    let ok = rw e at c.conditions-n.ensures.sound in
    let w = rw (c.conditions-n.ensures.value, e) at c.marked-look.ensures in
    rounding_first ok (stage_begins ok p (rw e at c.begin.ensures) _ (tops_are ok p (rw e at c.copy_tops.ensures)) w w)

pub advance-requires : goal.advance-requires
advance-requires c = let x = (c.support-fell.ensures c.loop-look.k c.loop-look.invariant.at) in ((c.loop-look.k, x.at), x.look_in, x.drained, free_told c.args.source.now.area c.args.marks.now c.requires.2)

pub overflow_add-k : goal.overflow_add-k
overflow_add-k c = omega (arith, rounds_small c.loop-look.invariant)

pub loop-look-smaller : goal.loop-look-smaller
loop-look-smaller c =
    let i = c.loop-look.invariant in
    let x = c.support-fell.ensures c.loop-look.k i.at in rounds_less i x (c.advance.ensures c.loop-look.k x.at) c.if-not-advance.false

pub loop-look-preserved : goal.loop-look-preserved
loop-look-preserved c =
    let i = c.loop-look.invariant in
    let x = c.support-fell.ensures c.loop-look.k i.at in rounds_next i x (c.advance.ensures c.loop-look.k x.at) c.if-not-advance.false

byte_small : (b : Bool) → bool_byte b ≤ 1
byte_small true = omega arith
byte_small false = omega arith

pub overflow_add-result : goal.overflow_add-result
overflow_add-result c = omega (arith, rounds_small c.loop-look.invariant, c.from.ensures, byte_small c.support-fell.result)

pub returns-then-not-advance : goal.returns-then-not-advance
returns-then-not-advance c =
    let i = c.loop-look.invariant in
    let x = c.support-fell.ensures c.loop-look.k i.at in
    let t = c.advance.ensures c.loop-look.k x.at in
    let y = c.if-not-advance.true in
    let b = rw (area_is c.source.view_is) at c.begin.ensures in
    by_bool c.support-fell.result (λ z. rw (c.from.ensures, z) (counted_from (rounds_after i x t y z) b.same_length b.beyond))
    (λ z. rw (c.from.ensures, z, add-zero) (counted_from (rounds_here i x t y z) b.same_length b.beyond))
