-- `look` raises the ends of the heads line by line (`Looked`).
use mathlib.Core.Bool.{or-true, or-false}
use native.Mathlib.Omega.{arith}
use Rattle.settle.proofs.Looking.{looked_next}
use Rattle.settle.proofs.Figures.look.Goals.{then-raise, else-raise}
use Rattle.settle.proofs.Figures.look.Goals as goal

pub loop-at-preserved : goal.loop-at-preserved
loop-at-preserved c =
    let n = looked_next _ _ _ _ c.raise.ensures.sound (λ j u. c.requires.2 j (omega (arith, u))) c.loop-at.invariant c.raise.ensures.raised in
    elim c.if-raise.branch [
      | then-raise w ↦ rw w.rose-is (rw (w.if-raise.true, or-true) at n)
      | else-raise w ↦ rw w.rose-is (rw (w.if-raise.false, or-false) at n)
    ]
