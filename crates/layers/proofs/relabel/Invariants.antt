-- `layers::relabel` meets its contract: the conditions passed have their new level, and those behind have their old one. Assumes nothing.
use mathlib.Core.Path.{◌≡◌}
use mathlib.Core.Logic.{◌⊎◌}
use Prim.Native.Nat.{ℕ, ◌≤◌, ◌<◌}
use Rattle.layers.specs.Levels.{level_in}
use Rattle.layers.proofs.relabel.Given as goal

abbrev pub invariant-loop-l : goal.invariant-loop-l
invariant-loop-l l =
    record {
      changed : (i : ℕ) → i < l.l-index → l.low ≤ level_in l.initial.levels i → level_in l.initial.levels i ≤ l.high → level_in l.levels i ≡ l.to;
      kept : (i : ℕ) → (level_in l.initial.levels i < l.low) ⊎ (l.high < level_in l.initial.levels i) → level_in l.levels i ≡ level_in l.initial.levels i;
      ahead : (i : ℕ) → l.l-index ≤ i → level_in l.levels i ≡ level_in l.initial.levels i;
    }
