-- `worklist::lowest_waiting` meets its contract. The loop's invariant: no condition passed waits. Assumes nothing.
use Prim.Native.Nat.{ℕ, ◌<◌}
use mathlib.Core.Logic.{◌≢◌}
use Rattle.semantics.specs.RunArea.{mark_at}
use Rattle.worklist.proofs.lowest_waiting.Given as goal

abbrev pub invariant-loop-k : goal.invariant-loop-k
invariant-loop-k l = (j : ℕ) → j < l.k → mark_at l.run j ≢ 2
