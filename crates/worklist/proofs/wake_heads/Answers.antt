-- `worklist::wake_heads` meets its contract. Assumes nothing.
use mathlib.Core.Path.{refl}
use mathlib.Core.Logic.{inl, inr}
use native.Mathlib.Omega.{arith}
use Rattle.worklist.proofs.Waking.{head_in, head_stays, head_wakes}
use Rattle.worklist.proofs.wake_heads.Goals.{then-mark-ne2+then-mark-ne0, else-mark-ne2, else-mark-ne2-via-then-mark-ne2+else-mark-ne0, else-mark-ne2-via-else-mark-ne2}
use Rattle.worklist.proofs.wake_heads.Goals as goal

pub loop-h-preserved : goal.loop-h-preserved
loop-h-preserved c =
    let i = c.loop-h.invariant in
    let k = c.loop-h.h-index in
    let f = head_in c.requires i.0 (omega arith) in
    elim c.if-mark-ne2.branch [
      | then-mark-ne2+then-mark-ne0 w ↦ rw (w.run-is, w.waiting-is) (head_wakes k refl i.0 i.1 f.1 w.if-mark-ne0.true w.insert.ensures.set)
      | else-mark-ne2 w ↦ elim w.else-mark-ne2.branch [
        | else-mark-ne2-via-then-mark-ne2+else-mark-ne0 v ↦ rw (w.run-is, w.waiting-is) (head_stays k refl i.0 i.1 (inr v.if-mark-ne0.false))
        | else-mark-ne2-via-else-mark-ne2 v ↦ rw (w.run-is, w.waiting-is) (head_stays k refl i.0 i.1 (inl v.if-mark-ne2.false))
      ]
    ]
