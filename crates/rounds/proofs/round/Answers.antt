-- `round` is a round of the alternating fixed point. Where a reached condition is unknown by default it is the last if no end moved
-- (`rounded_told`); else if no low end rose (`rounded_still`), or none that a rule negates (`rounded_rose`).
use mathlib.Core.Path.{refl}
use Rattle.index.proofs.Lookup.{area_is}
use Rattle.rounds.proofs.AllWaiting.{all_indexed}
use Rattle.rounds.proofs.Rounding.{highs_half, lows_ready, rounded_told, rounded_still, rounded_rose, none_reached}
use Rattle.rounds.proofs.round.Goals as goal

pub settle-requires : goal.settle-requires
settle-requires c =
    let h = rw (area_is c.source.view_is) at c.start_highs.ensures in
    (highs_half _ c.recall.ensures _ _ c.requires.0 h, all_indexed _ _ _ _ _ _ c.all_waiting-tops.ensures.1, c.all_waiting-tops.ensures.0)

pub settle_floor-requires : goal.settle_floor-requires
settle_floor-requires c =
    let h = rw (area_is c.source.view_is) at c.start_highs.ensures in
    let g = c.start_lows.ensures in
    let r = lows_ready _ c.recall.ensures _ _ c.requires.0 h c.settle.ensures.0 g.0 c.requires.1 g.1 in (r.0, r.1, r.2, c.requires.2)

pub returns-then-free : goal.returns-then-free
returns-then-free c =
    let h = rw (area_is c.source.view_is) at c.start_highs.ensures in
    let w = c.settle_floor.ensures in
    let r = rounded_told _ c.recall.ensures _ _ c.requires.0 h c.settle.ensures.0 c.start_lows.ensures.0 w.0 w.1 in (r.0, r.1, w.2)

pub settle-requires-2 : goal.settle-requires-2
settle-requires-2 c =
    let h = rw (area_is c.source.view_is) at c.start_highs.ensures in
    let g = c.start_lows.ensures in
    let r = lows_ready _ c.recall.ensures _ _ c.requires.0 h c.settle.ensures.0 g.0 c.requires.1 g.1 in (r.0.half, r.1, r.2)

pub returns-then-not-settle : goal.returns-then-not-settle
returns-then-not-settle c =
    let h = rw (area_is c.source.view_is) at c.start_highs.ensures in
    let none = none_reached c.args.source.now.area c.args.marks.now c.requires.3 c.if-free.false in
    let w = c.settle-2.ensures in
    let r = rounded_still _ c.recall.ensures _ _ c.requires.0 h c.settle.ensures.0 c.start_lows.ensures.0 none w.0 w.1 c.if-not-settle.true in (r.0, r.1, refl)

pub returns : goal.returns
returns c =
    let h = rw (area_is c.source.view_is) at c.start_highs.ensures in
    let none = none_reached c.args.source.now.area c.args.marks.now c.requires.3 c.if-free.false in
    let w = c.settle-2.ensures in
    let q = rw (area_is c.source.view_is) at c.negation_stale.ensures in
    let r = rounded_rose _ c.recall.ensures _ _ c.requires.0 h c.settle.ensures.0 c.start_lows.ensures.0 none w.0 w.1 c.if-not-settle.false q in (r.0, r.1, refl)
