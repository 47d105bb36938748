-- `worklist::waiting_digits` meets its contract. Assumes nothing.
use Prim.Native.Nat.{◌-◌}
use native.Mathlib.Omega.{arith}
use Rattle.worklist.proofs.Digits.{digits_down}
use Rattle.worklist.proofs.waiting_digits.Goals as goal

pub loop-c-preserved : goal.loop-c-preserved
loop-c-preserved c = (omega arith, digits_down c.loop-c.invariant.1 (omega arith) (omega arith) (c.requires.3 (c.loop-c.c - 1) (omega arith)))
