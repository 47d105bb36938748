-- `lower_floor`: no high end falls (`floor_still`), or the low ends are settled again (`floor_fell`).
use Rattle.index.proofs.Lookup.{area_is}
use Rattle.rounds.proofs.Flooring.{lows_again, floor_still, floor_fell}
use Rattle.rounds.proofs.lower_floor.Goals as goal

pub returns-then-not-fall : goal.returns-then-not-fall
returns-then-not-fall c =
    let h = rw (area_is c.source.view_is) at c.refresh.ensures in
    let x = rw (area_is c.source.view_is) at c.next_highs.ensures in
    (floor_still _ c.recall.ensures _ c.requires.0 c.requires.1 h x c.fall.ensures c.if-not-fall.true, c.fall.ensures.set_in, x.steady.same_length)

pub settle-requires : goal.settle-requires
settle-requires c =
    let h = rw (area_is c.source.view_is) at c.refresh.ensures in
    let x = rw (area_is c.source.view_is) at c.next_highs.ensures in lows_again _ c.recall.ensures _ c.requires.0 c.requires.1 h x c.fall.ensures

pub returns : goal.returns
returns c =
    let h = rw (area_is c.source.view_is) at c.refresh.ensures in
    let x = rw (area_is c.source.view_is) at c.next_highs.ensures in
    (floor_fell _ c.recall.ensures _ c.requires.0 c.requires.1 h x c.fall.ensures c.if-not-fall.false c.settle.ensures.0, c.settle.ensures.1, x.steady.same_length)
