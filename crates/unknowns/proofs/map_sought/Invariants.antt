-- `map_sought` stores what is made of the entry of one condition sought after the other (`Storing`).
use Prim.Native.Nat.{ℕ}
use Rattle.value.specs.LineEnds.{Computes}
use Rattle.unknowns.proofs.Storing.{Storing}
use Rattle.unknowns.proofs.map_sought.Given as goal

abbrev pub invariant-loop-c : goal.invariant-loop-c
invariant-loop-c g l = (f : ℕ → ℕ → ℕ) → Computes f (goal.F-post g l.made) → Storing l.page l.marks f l.initial.next l.next l.c
