-- `fold`: the op, literal by literal (`Folding`).
use Prim.Native.Nat.{ℕ, ◌≤◌}
use Rattle.value.specs.LineEnds.{slice, Foldable, OnGrades, Computes}
use Rattle.value.proofs.Folds.{Folding}
use Rattle.value.proofs.fold.Given as goal

abbrev pub invariant-loop-i : goal.invariant-loop-i
invariant-loop-i g l =
    ((top : ℕ) → Foldable top (slice l.a l.from l.to) l.values l.first → OnGrades top (goal.F-pre g l.op) (goal.F-post g l.op) → l.r ≤ top)
    × ((f : ℕ → ℕ → ℕ) → Computes f (goal.F-post g l.op) → Folding f (slice l.a l.from l.to) l.values l.first l.r l.i)
