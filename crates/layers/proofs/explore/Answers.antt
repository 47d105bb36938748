-- `layers::explore` meets its contract: each step of the search meets a condition or ends a part. Assumes nothing.
use Rattle.semantics.specs.Area.{page_of}
use Rattle.semantics.proofs.Readings.{names_inside}
use Rattle.layers.proofs.Paths.{level_small, moved_entered, moved_finished, open_root, explored}
use native.Mathlib.Omega.{arith}
use Rattle.page.proofs.Solvable.{solvable_proper}
use Rattle.layers.proofs.explore.Goals as goal

pub bounds-levels-root : goal.bounds-levels-root
unfolding page_of
bounds-levels-root c = omega (arith, c.requires.0.size)

pub loop-level-init : goal.loop-level-init
unfolding page_of
loop-level-init c =
    let w = solvable_proper c.args.page.now c.recall.ensures in
    (w, open_root (page_of c.args.page.now) w c.requires.0 c.requires.1 c.requires.2, λ x l. l)

pub look-requires : goal.look-requires
unfolding page_of
look-requires c = c.loop-level.invariant.1.size

pub enter-level-requires : goal.enter-level-requires
unfolding page_of
enter-level-requires c =
    let h = c.loop-level.invariant in
    let f = c.in-Err.ensures in
    (omega (arith, h.1.size, names_inside (page_of c.args.page.now) h.0 f.0 _ f.2), level_small (page_of c.args.page.now) h.0 h.1)

pub loop-level-smaller-in-Err : goal.loop-level-smaller-in-Err
unfolding page_of
loop-level-smaller-in-Err c =
    let h = c.loop-level.invariant in
    (moved_entered (page_of c.args.page.now) h.0 h.1 (omega arith) c.in-Err.ensures c.enter-level.ensures).less

pub loop-level-preserved-in-Err : goal.loop-level-preserved-in-Err
unfolding page_of
loop-level-preserved-in-Err c =
    let h = c.loop-level.invariant in
    let m = moved_entered (page_of c.args.page.now) h.0 h.1 (omega arith) c.in-Err.ensures c.enter-level.ensures in
    (h.0, m.state, λ x l. m.stays x (h.2 x l))

pub loop-level-smaller : goal.loop-level-smaller
unfolding page_of
loop-level-smaller c =
    let h = c.loop-level.invariant in
    (moved_finished (page_of c.args.page.now) h.0 h.1 c.in-Ok.ensures (omega arith) c.finish-least.ensures).less

pub loop-level-preserved : goal.loop-level-preserved
unfolding page_of
loop-level-preserved c =
    let h = c.loop-level.invariant in
    let m = moved_finished (page_of c.args.page.now) h.0 h.1 c.in-Ok.ensures (omega arith) c.finish-least.ensures in
    (h.0, m.state, λ x l. m.stays x (h.2 x l))

pub returns : goal.returns
unfolding page_of
returns c =
    let h = c.loop-level.invariant in
    explored (page_of c.args.page.now) h.0 c.requires.0 c.requires.1 c.requires.2 h.1 (omega arith) h.2
