-- `trial_gives` meets its contract. The loop's invariant: what the lines passed give stands unless a line still to come gives something.
-- Assumes nothing.
use mathlib.Core.Path.{◌∙◌, ap}
use native.Mathlib.Omega.{arith}
use Rattle.change.specs.Trial.{given_of}
use Rattle.change.proofs.Giving.{given_or, giving_first, giving_next, giving_last}
use Rattle.change.proofs.trial_gives.Goals as goal

pub loop-line-init : goal.loop-line-init
loop-line-init c = rw c.into_iter-line-iterator.ensures.into_iter_gives (c.chunks_exact-line-items.ensures.size, rw c.chunks_exact-line-items.ensures.rest (giving_first _ _))

pub loop-line-preserved : goal.loop-line-preserved
loop-line-preserved c =
    let i = c.loop-line.invariant in
    let s = c.in-Some.ensures.steps in
    (s.0 ∙ i.0, giving_next _ _ i.1 _ s.1.0 (s.1.1 ∙ i.0) c.line_gives.ensures (ap given_of c.or-given.ensures ∙ given_or c.line_gives.result c.loop-line.given))

pub returns : goal.returns
returns c = giving_last _ _ c.loop-line.invariant.1 (omega (arith, c.in-None.ensures.steps.1.0, c.loop-line.invariant.0))
