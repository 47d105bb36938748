-- What the readings ask of T, the function that gives each condition its body value. Assumes nothing.
use Rattle.std.specs.Prelude.{◌≡◌, Bool, true, ℕ, ◌≤◌, ◌<◌}
use Rattle.fixpoint.specs.Interval.{Interval, Within, Ordered, Assign}
use Rattle.fixpoint.specs.KnowledgeOrder.{Under}

-- n conditions with grades up to top, whose body values depend on what they name, and know more where more is known
pub record System (n top : ℕ) (T : Assign → ℕ → Interval) (names : ℕ → ℕ → Bool) : Type 0 where
  pub local : (I J : Assign) (A : ℕ) → A < n → ((B : ℕ) → B < n → names A B ≡ true → I B ≡ J B) → T I A ≡ T J A
  pub mono : (I J : Assign) → ((B : ℕ) → B < n → Under (I B) (J B)) → (A : ℕ) → A < n → Under (T I A) (T J A)
  pub bounded : (I : Assign) → ((B : ℕ) → B < n → Within top (I B)) → (A : ℕ) → A < n → Within top (T I A)

-- T crosses nothing: what the plain reading's low ≤ high needs
pub record Consistent (n : ℕ) (T : Assign → ℕ → Interval) : Type 0 where
  pub consistent : (I : Assign) → ((B : ℕ) → B < n → Ordered (I B)) → (A : ℕ) → A < n → Ordered (T I A)

-- two assignments that do not contradict one another are not contradicted by T: what the closed reading's low ≤ high needs.
-- With I = J it says Consistent.
pub record Agrees (n : ℕ) (T : Assign → ℕ → Interval) : Type 0 where
  pub agrees : (I J : Assign) → ((b : ℕ) → b < n → (I b).low ≤ (J b).high) → ((b : ℕ) → b < n → (J b).low ≤ (I b).high) → (c : ℕ) → c < n → (T I c).low ≤ (T J c).high
