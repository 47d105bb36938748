-- `season::sums_of` meets its contract. Assumes nothing.
use mathlib.Core.Path.{◌∙◌}
use Prim.Native.Nat.{◌-◌}
use native.Mathlib.Omega.{arith}
use lib.ListN.{length, drop, length-drop}
use lib.Seq.{take_all}
use Rattle.semantics.proofs.Season.{season_accepted}
use Rattle.season.proofs.Growing.{first_good, summing_first, summing_fits, summing_next, summing_last}
use Rattle.season.proofs.sums_of.Goals as goal

pub first-sums-requires : goal.first-sums-requires
first-sums-requires c = (first_good c.args.pairs.now (season_accepted c.args.pairs.now c.requires)).0

pub loop-pair-init : goal.loop-pair-init
loop-pair-init c =
    let s = c.args.pairs.now in
    let e = c.chunks_exact-pair-items.ensures in
    let rest = e.rest ∙ take_all (length s - 2) (drop 2 s) (omega (arith, length-drop 2 s)) in
    rw c.into_iter-pair-iterator.ensures.into_iter_gives (e.size, rw (rest, c.first-sums.ensures) (summing_first s (season_accepted s c.requires)))

pub add-sums-requires : goal.add-sums-requires
add-sums-requires c =
    let i = c.loop-pair.invariant in
    let s = c.in-Some.ensures.steps in
    summing_fits i.1 _ _ s.1.0 (s.1.1 ∙ i.0)

pub loop-pair-preserved : goal.loop-pair-preserved
loop-pair-preserved c =
    let i = c.loop-pair.invariant in
    let s = c.in-Some.ensures.steps in
    (s.0 ∙ i.0, rw c.add-sums.ensures (summing_next i.1 _ _ s.1.0 (s.1.1 ∙ i.0)))

pub returns : goal.returns
returns c = summing_last c.loop-pair.invariant.1 (omega (arith, c.in-None.ensures.steps.1.0, c.loop-pair.invariant.0))
