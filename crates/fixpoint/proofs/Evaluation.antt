-- An evaluation: what it puts, whom it wakes, and what it reads. Assumes nothing.
use mathlib.Core.Path.{◌≡◌, refl, subst}
use mathlib.Core.Logic.{◌⊎◌, inl, inr, ◌≢◌}
use mathlib.Core.Bool.{Bool, true, false, ◌&&◌, ◌||◌, cond, true≢false, false≢true}
use Prim.Native.Nat.{ℕ, ◌+◌, ◌≤◌, ◌<◌}
use native.Mathlib.Omega.{arith}
use lib.Dec.{eqb}
use borrow.Author.Tests.{eqb-true, eq-eqb, ne_eqb}
use Rattle.fixpoint.specs.Interval.{Interval, Assign, same}
use Rattle.fixpoint.specs.KnowledgeOrder.{Under}
use Rattle.fixpoint.specs.System.{System}
use Rattle.fixpoint.specs.Sum.{bit}
use Rattle.fixpoint.specs.ChaoticIteration.{put, woken, Step}
use Rattle.fixpoint.proofs.KnowledgeOrder.{pair_eq, under_refl}

-- Booleans
pub or_false : (a b : Bool) → (a || b) ≡ false → (a ≡ false) × (b ≡ false)
or_false true b e = absurd (true≢false e)
or_false false b e = (refl, e)

pub or_true : (a b : Bool) → (a || b) ≡ true → (a ≡ true) ⊎ (b ≡ true)
or_true true b e = inl refl
or_true false b e = inr e

pub and_true : (a b : Bool) → (a && b) ≡ true → (a ≡ true) × (b ≡ true)
and_true true b e = (refl, e)
and_true false b e = absurd (false≢true e)

pub bit_or : (a b : Bool) → bit (a || b) ≤ bit a + bit b
bit_or true b = omega arith
bit_or false b = omega arith

pub bit_and : (a b : Bool) → bit (a && b) ≤ bit a
bit_and true true = omega arith
bit_and true false = omega arith
bit_and false b = omega arith

pub bit_false : (a : Bool) → bit a ≡ 0 → a ≡ false
bit_false true e = absurd (omega arith)
bit_false false e = refl

-- `same` tells equal pairs
pub same_true : (p q : Interval) → same p q ≡ true → p ≡ q
unfolding same
same_true p q e =
    let h : (eqb p.low q.low ≡ true) × (eqb p.high q.high ≡ true) = and_true _ _ e in
    pair_eq (eqb-true _ _ h.0) (eqb-true _ _ h.1)

pub same_refl : (p : Interval) → same p p ≡ true
unfolding same
same_refl p = rw (eq-eqb p.low p.low refl, eq-eqb p.high p.high refl)

pub put_same : (I : Assign) (A : ℕ) (p : Interval) → put I A p A ≡ p
unfolding put
put_same I A p = rw (eq-eqb A A refl)

pub put_other : (I : Assign) (A : ℕ) (p : Interval) (c : ℕ) → c ≢ A → put I A p c ≡ I c
unfolding put
put_other I A p c h = rw (ne_eqb c A h)

module _ {n top : ℕ} {T : Assign → ℕ → Interval} {names : ℕ → ℕ → Bool} (S : System n top T names) where
  -- T is monotone in what a condition names
  pub mono_at : (I J : Assign) (a : ℕ) → a < n → ((b : ℕ) → b < n → names a b ≡ true → Under (I b) (J b)) → Under (T I a) (T J a)
  mono_at I J a l h =
      subst (λ (r : Interval). Under (T I a) r) (S.local mix J a l (λ b m e. rw e)) (S.mono I mix (λ b m. go b m (names a b) refl) a l)
    where
      mix : Assign
      mix b = cond (names a b) (J b) (I b)

      go : (b : ℕ) → b < n → (t : Bool) → names a b ≡ t → Under (I b) (cond t (J b) (I b))
      go b m true e = h b m e
      go b m false e = under_refl (I b)

-- the step that computes
pub step_at_lem : {n : ℕ} (T : Assign → ℕ → Interval) (names : ℕ → ℕ → Bool) (reached : ℕ → Bool) (A : ℕ) (I : Assign) (W : ℕ → Bool) → A < n
    → W A ≡ true
    → Step n T names reached A I W (put I A (T I A)) (woken T names reached I W A)
step_at_lem T names reached A I W l w = record { real = l; waits = w; puts = λ c m. refl; wakes = λ c m. refl }
