-- `start_highs` makes the negations fresh, and then starts one high end after the other (`StartingHighs`).
use native.Mathlib.Omega.{arith}
use Rattle.rounds.proofs.Starting.{kept_high, high_anew}
use Rattle.rounds.proofs.start_highs.Goals.{then-not-unknown_by_default, else-not-unknown_by_default}
use Rattle.rounds.proofs.start_highs.Goals as goal

pub loop-c-preserved : goal.loop-c-preserved
loop-c-preserved c =
    elim c.if-not-unknown_by_default.branch [
      | then-not-unknown_by_default w ↦ rw (w.scratch-is, c.conditions-n.ensures.value) (high_anew _ _ c.loop-c.invariant (omega (arith, c.conditions-n.ensures.value)) (cc))
      | else-not-unknown_by_default w ↦ rw w.scratch-is (kept_high _ _ c.loop-c.invariant (omega (arith, c.conditions-n.ensures.value)) (cc))
    ]
