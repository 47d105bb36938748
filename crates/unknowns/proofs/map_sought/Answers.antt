-- `map_sought` stores what is made of the entry of one condition sought after the other (`Storing`).
use native.Mathlib.Omega.{arith}
use Rattle.unknowns.proofs.Storing.{stored_here, kept_here}
use Rattle.unknowns.proofs.map_sought.Goals.{then-is_sought, else-is_sought}
use Rattle.unknowns.proofs.map_sought.Goals as goal

pub loop-c-preserved : goal.loop-c-preserved
loop-c-preserved g c = λ f h. let i = c.loop-c.invariant f h in
    elim c.if-is_sought.branch [
      | then-is_sought w ↦ rw w.next-is (stored_here _ _ _ _ i (omega (arith, c.conditions-c-end.ensures.value)) (cc) (h _ _ _ w.made.ensures))
      | else-is_sought w ↦ rw w.next-is (kept_here _ _ _ _ i (omega (arith, c.conditions-c-end.ensures.value)) (cc))
    ]
