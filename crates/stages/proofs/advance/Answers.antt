-- `advance` finds the next floor and takes it over, if it moves (`advanced`).
use mathlib.Core.Path.{sym, ◌∙◌}
use mathlib.Core.Logic.{inl, inr}
use mathlib.Core.Bool.{true≢false}
use Rattle.stages.proofs.Advancing.{advance_notable, advance_places, advance_table, advance_rests, advanced_still, advance_comparable, take_ready, advanced}
use Rattle.stages.proofs.advance.Goals.{else-not-fallen-via-then-not-fallen+else-is_empty, else-not-fallen-via-else-not-fallen}
use Rattle.stages.proofs.advance.Goals as goal

pub next_floor-requires : goal.next_floor-requires
next_floor-requires c =
    let ok = c.recall.ensures in
    let b = c.requires.0.1 in
    ((advance_places ok b, advance_table ok b, c.requires.3), (advance_notable ok b c.empty-moved.ensures, b.lows_wait.set_in, advance_rests ok b))

pub returns-then-is_empty : goal.returns-then-is_empty
returns-then-is_empty c =
    λ k b. advanced_still c.recall.ensures b c.next_floor.ensures.0 c.empty-moved.ensures c.next_floor.ensures.1 c.take_highs-fallen.ensures c.if-not-fallen.true (c.is_empty.ensures.0 c.if-is_empty.true)

pub look_again-requires : goal.look_again-requires
look_again-requires c =
    let ok = c.recall.ensures in
    let b = c.requires.0.1 in
    (advance_comparable ok b c.next_floor.ensures.0 c.empty-moved.ensures c.next_floor.ensures.1 c.take_highs-fallen.ensures, b.tables.marked, c.take_highs-fallen.ensures.look_in)

pub take_all-requires : goal.take_all-requires
take_all-requires c = take_ready c.recall.ensures c.requires.0.1 c.next_floor.ensures.0 c.empty-moved.ensures c.next_floor.ensures.1 c.take_highs-fallen.ensures c.look_again.ensures

pub returns : goal.returns
returns c =
    λ k b. advanced c.recall.ensures b c.next_floor.ensures.0 c.empty-moved.ensures c.next_floor.ensures.1 c.take_highs-fallen.ensures c.take_all.ensures
    (elim c.else-not-fallen.branch [
      | else-not-fallen-via-then-not-fallen+else-is_empty w ↦ inr (λ z. true≢false (sym (w.is_empty.ensures.1 z) ∙ w.if-is_empty.false))
      | else-not-fallen-via-else-not-fallen w ↦ inl w.if-not-fallen.false
    ])
    c.requires.2 c.look_again.ensures
