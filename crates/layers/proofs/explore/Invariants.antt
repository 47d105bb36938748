-- `layers::explore` meets its contract: each step of the search meets a condition or ends a part. Assumes nothing.
use Prim.Native.Nat.{ℕ, ◌≤◌}
use Rattle.semantics.specs.Area.{page_of, conditions_of}
use Rattle.semantics.proofs.Proper.{Proper}
use Rattle.layers.specs.Levels.{level_in, Open}
use Rattle.layers.proofs.Paths.{measure}
use Rattle.layers.proofs.explore.Given as goal

abbrev pub invariant-loop-level : goal.invariant-loop-level
invariant-loop-level l = Proper (page_of l.page) × Open (page_of l.page) l.levels l.level l.least × ((x : ℕ) → 1 ≤ level_in l.initial.levels x → 1 ≤ level_in l.levels x)

abbrev pub decreases-loop-level : goal.decreases-loop-level
decreases-loop-level l = measure (conditions_of l.page) l.levels l.level
