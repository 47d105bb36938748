-- `support` lowers the high ends that may be others, settles them, and lets the negations follow (`supported`).
use mathlib.Core.Logic.{inr}
use Rattle.stages.proofs.Supporting.{tops_half, tops_waiting, follow_ready, supported_still, supported}
use Rattle.stages.proofs.support.Goals as goal

pub returns-then-not-lower_tops : goal.returns-then-not-lower_tops
returns-then-not-lower_tops c = λ k b. supported_still c.recall.ensures b c.lower_tops.ensures c.if-not-lower_tops.true

pub settle-requires : goal.settle-requires
settle-requires c =
    let b = c.requires.1 in
    let v = c.lower_tops.ensures in
    let ok = c.recall.ensures in
    (tops_half ok b v, inr (tops_waiting ok b v), v.lowered_in)

pub follow-requires : goal.follow-requires
follow-requires c = follow_ready c.recall.ensures c.requires.1 c.lower_tops.ensures c.settle.ensures.0

pub returns : goal.returns
returns c =
    λ k b. rw c.if-not-lower_tops.false at
    (supported c.recall.ensures b c.lower_tops.ensures c.settle.ensures.0 c.follow.ensures.0 c.follow.ensures.1)
