-- Least fixed points in the knowledge order, by iteration from the bottom. Assumes nothing.
use Rattle.std.specs.Prelude.{◌≡◌, ℕ, zero, suc, ◌+◌, ◌*◌, ◌<◌}
use Rattle.fixpoint.specs.Interval.{Interval, Within, Assign}
use Rattle.fixpoint.specs.KnowledgeOrder.{Under, bottom}

-- what the iteration asks of an operator
pub record Operator (n top : ℕ) (U : Assign → ℕ → Interval) : Type 0 where
  pub mono : (I J : Assign) → ((B : ℕ) → B < n → Under (I B) (J B)) → (A : ℕ) → A < n → Under (U I A) (U J A)
  pub bounded : (I : Assign) → ((B : ℕ) → B < n → Within top (I B)) → (A : ℕ) → A < n → Within top (U I A)

-- P is the least assignment that U makes of itself; for U = T it is the plain reading
pub record IsLeast (n top : ℕ) (U : Assign → ℕ → Interval) (P : Assign) : Type 0 where
  pub within : (c : ℕ) → c < n → Within top (P c)
  pub fixed : (c : ℕ) → c < n → P c ≡ U P c
  pub least : (J : Assign) → ((c : ℕ) → c < n → Within top (J c)) → ((c : ℕ) → c < n → J c ≡ U J c) → (c : ℕ) → c < n → Under (P c) (J c)

-- round k
unfoldable pub iter : ℕ → (Assign → ℕ → Interval) → ℕ → Assign
iter top U zero = bottom top
iter top U (suc k) = U (iter top U k)

-- each of n intervals can narrow 2 * top times, so the last of so many rounds is fixed
unfoldable pub lfp : ℕ → ℕ → (Assign → ℕ → Interval) → Assign
lfp n top U = iter top U (n * (top + top))
