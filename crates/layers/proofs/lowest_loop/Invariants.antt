-- `layers::lowest_loop` meets its contract: the conditions below c are done. Assumes nothing.
use mathlib.Core.Path.{◌≡◌}
use Prim.Native.Nat.{ℕ, ◌<◌}
use Rattle.semantics.specs.Area.{page_of}
use Rattle.layers.specs.Levels.{level_in, Open}
use Rattle.layers.proofs.lowest_loop.Given as goal

abbrev pub invariant-loop-c : goal.invariant-loop-c
invariant-loop-c l = Open (page_of l.page) l.levels 0 l.lowest × ((i : ℕ) → i < l.c-counter → level_in l.levels i ≡ 513)
