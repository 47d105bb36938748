-- `worklist::waiting_digits` meets its contract. The loop's invariant: the digits tell of the conditions from c on. Assumes nothing.
use Prim.Native.Nat.{◌≤◌}
use Rattle.worklist.specs.Waiting.{Digits}
use Rattle.worklist.proofs.waiting_digits.Given as goal

abbrev pub invariant-loop-c : goal.invariant-loop-c
invariant-loop-c l = (l.from ≤ l.c) × Digits l.run l.c l.to l.x
