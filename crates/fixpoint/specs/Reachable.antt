-- What the reached conditions alone decide. Assumes nothing.
use Rattle.std.specs.Prelude.{◌≡◌, Bool, true, false, cond, ℕ, suc, ◌<◌}
use Rattle.fixpoint.specs.Interval.{Interval, Within, Assign}
use Rattle.fixpoint.specs.KnowledgeOrder.{Under, Alike}
use Rattle.fixpoint.specs.LeastFixpoint.{iter}

-- T on what is reached, and J elsewhere
unfoldable pub only : (ℕ → Bool) → Assign → (Assign → ℕ → Interval) → Assign → ℕ → Interval
only reached J T I c = cond (reached c) (T I c) (J c)

-- P is, on what is reached, the least assignment that U makes of itself
pub record IsLeastOn (n top : ℕ) (U : Assign → ℕ → Interval) (reached : ℕ → Bool) (P : Assign) : Type 0 where
  pub within : (c : ℕ) → c < n → reached c ≡ true → Within top (P c)
  pub fixed : Alike n reached P (U P)
  pub least : (J : Assign) → ((c : ℕ) → c < n → reached c ≡ true → Within top (J c)) → Alike n reached J (U J) → (c : ℕ) → c < n → reached c ≡ true → Under (P c) (J c)

-- the count of rounds: k is the number of the first round that the next one equals, on what is reached
pub record IsCount (n top : ℕ) (U : Assign → ℕ → Interval) (reached : ℕ → Bool) (k : ℕ) : Type 0 where
  pub still : Alike n reached (iter top U k) (iter top U (suc k))
  pub moving : (j : ℕ) → j < k → ¬ Alike n reached (iter top U j) (iter top U (suc j))

-- the high end of A's body value sees the high ends of what A names, and low ends only of what A negates
pub record HighLocal (n : ℕ) (T : Assign → ℕ → Interval) (names negates : ℕ → ℕ → Bool) : Type 0 where
  pub named : (A B : ℕ) → A < n → B < n → negates A B ≡ true → names A B ≡ true
  pub high_local : (I J : Assign) (A : ℕ) → A < n → ((B : ℕ) → B < n → names A B ≡ true → (I B).high ≡ (J B).high)
      → ((B : ℕ) → B < n → negates A B ≡ true → (I B).low ≡ (J B).low) → (T I A).high ≡ (T J A).high

-- the supports over the floors of L and M read the same: for each reached condition that is not free,
-- the low ends of what it negates and the high ends of the free conditions that it names
pub record Unseen (n : ℕ) (names negates : ℕ → ℕ → Bool) (free reached : ℕ → Bool) (L M : Assign) : Type 0 where
  pub lows : (a b : ℕ) → a < n → b < n → reached a ≡ true → free a ≡ false → negates a b ≡ true → (L b).low ≡ (M b).low
  pub highs : (a b : ℕ) → a < n → b < n → reached a ≡ true → free a ≡ false → names a b ≡ true → free b ≡ true → (L b).high ≡ (M b).high
