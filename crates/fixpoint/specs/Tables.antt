-- Tables that are right on what is reached, and hold anything elsewhere. Assumes nothing.
use Rattle.std.specs.Prelude.{◌≡◌, Bool, true, false, ℕ, ◌<◌}
use Rattle.fixpoint.specs.Interval.{Interval, Assign}
use Rattle.fixpoint.specs.KnowledgeOrder.{Alike}
use Rattle.fixpoint.specs.WellFounded.{stage}
use Rattle.fixpoint.specs.AlternatingFixpoint.{floor, highs, turns}

-- the floor of L is that of alternating round k
pub record Turned (n top : ℕ) (T : Assign → ℕ → Interval) (free reached : ℕ → Bool) (k : ℕ) (L : Assign) : Type 0 where
  pub turned : Alike n reached (floor top free L) (turns n top T free k)

-- the high ends of H are those over the floor of alternating round k
pub record Topped (n top : ℕ) (T : Assign → ℕ → Interval) (free reached : ℕ → Bool) (k : ℕ) (H : Assign) : Type 0 where
  pub topped : (c : ℕ) → c < n → reached c ≡ true → free c ≡ false → (H c).high ≡ (highs n top T free (turns n top T free k) c).high

-- I is round k of the closed reading
pub record Staged (n top : ℕ) (T : Assign → ℕ → Interval) (free reached : ℕ → Bool) (k : ℕ) (I : Assign) : Type 0 where
  pub staged : Alike n reached I (stage n top T free k)

-- the high ends of H are those of round k of the closed reading
pub record Roofed (n top : ℕ) (T : Assign → ℕ → Interval) (free reached : ℕ → Bool) (k : ℕ) (H : Assign) : Type 0 where
  pub roofed : (c : ℕ) → c < n → reached c ≡ true → free c ≡ false → (H c).high ≡ (stage n top T free k c).high
