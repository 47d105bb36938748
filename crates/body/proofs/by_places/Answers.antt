-- `body::by_places` meets its contract. Assumes nothing.
use Prim.Native.Nat.{◌+◌}
use native.Mathlib.Omega.{arith}
use Rattle.body.proofs.Gathering.{gathering_next, gathering_last, Listed, listed_more, listed_all}
use Rattle.body.proofs.by_places.Goals as goal

pub loop-at-preserved : goal.loop-at-preserved
loop-at-preserved c =
    let k = c.loop-at.at-index in
    let t = c.take_line-best.ensures in
    let o = c.requires.1.only k (omega arith) in
    gathering_next _ _ _ t.sound (Listed c.args.places.now (k + 1)) c.loop-at.invariant (rw o.head at t.taken) (listed_more c.args.places.now k)

pub returns : goal.returns
returns c = gathering_last _ _ _ _ c.loop-at.invariant (listed_all _ c.requires.1 (omega arith))
