-- Chaotic iteration with a worklist: steps, runs, and what every run keeps. Assumes nothing.
use Rattle.std.specs.Prelude.{◌≡◌, Bool, true, false, not, ◌&&◌, ◌||◌, cond, ℕ, suc, ◌+◌, ◌*◌, ◌-◌, ◌≤◌, ◌<◌, eqb}
use Rattle.fixpoint.specs.Interval.{Interval, same, Within, Ordered, Assign}
use Rattle.fixpoint.specs.KnowledgeOrder.{Under, bottom}
use Rattle.fixpoint.specs.Sum.{sum, count, namers}

-- what is reached names only what is reached
abbrev pub DependencyClosed : ℕ → (ℕ → ℕ → Bool) → (ℕ → Bool) → Type 0
DependencyClosed n names reached = (a b : ℕ) → a < n → b < n → reached a ≡ true → names a b ≡ true → reached b ≡ true

-- an evaluation of A: A holds its body value and waits no longer; if that changed it, whatever is reached and names A waits
unfoldable pub put : Assign → ℕ → Interval → Assign
put I A p c = cond (eqb c A) p (I c)

unfoldable pub woken : (Assign → ℕ → Interval) → (ℕ → ℕ → Bool) → (ℕ → Bool) → Assign → (ℕ → Bool) → ℕ → ℕ → Bool
woken T names reached I W A c = (W c && not (eqb c A)) || (not (same (I A) (T I A)) && (reached c && names c A))

-- I' and W' are, below n, what an evaluation of A makes of I and W
pub record Step (n : ℕ) (T : Assign → ℕ → Interval) (names : ℕ → ℕ → Bool) (reached : ℕ → Bool)
    (A : ℕ) (I : Assign) (W : ℕ → Bool) (I' : Assign) (W' : ℕ → Bool) : Type 0 where
  pub real : A < n
  pub waits : W A ≡ true
  pub puts : (c : ℕ) → c < n → I' c ≡ put I A (T I A) c
  pub wakes : (c : ℕ) → c < n → W' c ≡ woken T names reached I W A c

-- a run begins with nothing known and all that is reached waiting
pub data Run (n top : ℕ) (T : Assign → ℕ → Interval) (names : ℕ → ℕ → Bool) (reached : ℕ → Bool) : Assign → (ℕ → Bool) → ℕ → Type 0 where
  start : {I : Assign} {W : ℕ → Bool} → ((c : ℕ) → c < n → I c ≡ bottom top c) → ((c : ℕ) → c < n → W c ≡ reached c) → Run n top T names reached I W 0
  step : {I I' : Assign} {W W' : ℕ → Bool} {A k : ℕ} → Run n top T names reached I W k → Step n T names reached A I W I' W'
      → Run n top T names reached I' W' (suc k)

-- E, the pairs of a reached condition and one that it names; how wide the named ones are; and the bound R + top × E
abbrev pub edges : ℕ → (ℕ → ℕ → Bool) → (ℕ → Bool) → ℕ
edges n names reached = sum n (namers n names reached)

abbrev pub slack : ℕ → (ℕ → ℕ → Bool) → (ℕ → Bool) → Assign → ℕ
slack n names reached I = sum n (λ b. namers n names reached b * ((I b).high - (I b).low))

abbrev pub budget : ℕ → ℕ → (ℕ → ℕ → Bool) → (ℕ → Bool) → ℕ
budget n top names reached = count n reached + edges n names reached * top

-- what holds all along a run to the least fixed point P, after so many steps
pub record Kept (n top : ℕ) (T : Assign → ℕ → Interval) (names : ℕ → ℕ → Bool) (reached : ℕ → Bool) (P : Assign)
    (I : Assign) (W : ℕ → Bool) (taken : ℕ) : Type 0 where
  pub known : (c : ℕ) → c < n → Under (I c) (P c)
  pub grows : (c : ℕ) → c < n → reached c ≡ true → Under (I c) (T I c)
  pub settled : (c : ℕ) → c < n → reached c ≡ true → W c ≡ false → I c ≡ T I c
  pub ordered : (c : ℕ) → c < n → Ordered (I c)
  pub within : (c : ℕ) → c < n → Within top (I c)
  pub inside : (c : ℕ) → c < n → W c ≡ true → reached c ≡ true
  pub spent : taken + count n W + slack n names reached I ≤ budget n top names reached
