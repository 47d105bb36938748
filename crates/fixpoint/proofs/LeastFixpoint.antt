-- The least fixed point of a monotone and bounded operator, by iteration. Assumes nothing.
use mathlib.Core.Path.{◌≡◌, sym, subst}
use mathlib.Core.Logic.{◌⊎◌, inl, inr}
use Prim.Native.Nat.{ℕ, zero, suc, ◌+◌, ◌*◌, ◌-◌, ◌≤◌, ◌<◌}
use native.Mathlib.Decide.{dec_le}
use native.Mathlib.Omega.{arith}
use Rattle.fixpoint.specs.Interval.{Interval, Within, Assign}
use Rattle.fixpoint.specs.KnowledgeOrder.{Under, bottom}
use Rattle.fixpoint.specs.LeastFixpoint.{Operator, IsLeast, iter, lfp}
use Rattle.fixpoint.specs.Sum.{sum}
use Rattle.fixpoint.proofs.Descent.{settles}
use Rattle.fixpoint.proofs.Sum.{sum_le, sum_const, sum_tight}
use Rattle.fixpoint.proofs.KnowledgeOrder.{pair_eq, under_refl, under_trans, under_antisym, under_eq}

-- what is left to learn of a pair
abbrev room : ℕ → Interval → ℕ
room top p = (top - p.low) + p.high

room_eq : (top : ℕ) {p q : Interval} → Under p q → Within top q → room top q ≡ room top p → p ≡ q
room_eq top h w e = pair_eq (omega arith) (omega arith)

module _ {n top : ℕ} {U : Assign → ℕ → Interval} (O : Operator n top U) where
  -- a monotone operator sees only what lies below n
  pub ext : (I J : Assign) → ((b : ℕ) → b < n → I b ≡ J b) → (c : ℕ) → c < n → U I c ≡ U J c
  ext I J h c l =
      under_antisym (O.mono I J (λ b m. under_eq (h b m)) c l) (O.mono J I (λ b m. under_eq (sym (h b m))) c l)

  pub iter_within : (k c : ℕ) → c < n → Within top (iter top U k c)
  unfolding iter bottom
  iter_within zero c l = omega arith
  iter_within (suc k) c l = O.bounded (iter top U k) (iter_within k) c l

  pub iter_grows : (k c : ℕ) → c < n → Under (iter top U k c) (iter top U (suc k) c)
  unfolding iter bottom
  iter_grows zero c l = omega (arith, iter_within 1 c l)
  iter_grows (suc k) c l = O.mono (iter top U k) (iter top U (suc k)) (iter_grows k) c l

  pub iter_later : (m k : ℕ) → m ≤ k → (c : ℕ) → c < n → Under (iter top U m c) (iter top U k c)
  iter_later m zero h c l = subst (λ (j : ℕ). Under (iter top U j c) (iter top U zero c)) (omega arith) (under_refl (iter top U zero c))
  iter_later m (suc k) h c l =
      elim (dec_le m k) [
        | yes q ↦ under_trans (iter_later m k q c l) (iter_grows k c l)
        | no q ↦ subst (λ (j : ℕ). Under (iter top U j c) (iter top U (suc k) c)) (omega arith) (under_refl (iter top U (suc k) c))
      ]

  -- every round is under every bounded J that U does not raise, and so under every fixed point
  pub iter_under : (J : Assign) → ((c : ℕ) → c < n → Within top (J c)) → ((c : ℕ) → c < n → Under (U J c) (J c)) → (k c : ℕ) → c < n
      → Under (iter top U k c) (J c)
  unfolding iter bottom
  iter_under J w u zero c l = omega (arith, w c l)
  iter_under J w u (suc k) c l = under_trans (O.mono (iter top U k) J (iter_under J w u k) c l) (u c l)

  abbrev Fixed : ℕ → Type 0
  Fixed k = (c : ℕ) → c < n → iter top U k c ≡ iter top U (suc k) c

  abbrev left : ℕ → ℕ
  left k = sum n (λ c. room top (iter top U k c))

  stays : (k : ℕ) → Fixed k → Fixed (suc k)
  unfolding iter
  stays k h = ext (iter top U k) (iter top U (suc k)) h

  progress : (k : ℕ) → Fixed k ⊎ (left (suc k) < left k)
  progress k =
      elim (dec_le (left k) (left (suc k))) [
        | yes q ↦ inl (λ c l. room_eq top (iter_grows k c l) (iter_within (suc k) c l) (sum_tight n _ _ (λ a m. omega (arith, iter_grows k a m)) q c l))
        | no q ↦ inr (omega arith)
      ]

  left_first : left 0 ≤ n * (top + top)
  unfolding iter bottom
  left_first = omega (arith, sum_const n (top + top), sum_le n (λ c. room top (iter top U 0 c)) (λ c. top + top) (λ c l. omega arith))

  fixed_then : Fixed (n * (top + top))
  fixed_then = settles left Fixed progress stays (n * (top + top)) left_first

  pub lfp_within : (c : ℕ) → c < n → Within top (lfp n top U c)
  unfolding lfp
  lfp_within = iter_within (n * (top + top))

  pub lfp_fixed : (c : ℕ) → c < n → lfp n top U c ≡ U (lfp n top U) c
  unfolding lfp iter
  lfp_fixed = fixed_then

  -- under every bounded J that U does not raise
  pub lfp_under : (J : Assign) → ((c : ℕ) → c < n → Within top (J c)) → ((c : ℕ) → c < n → Under (U J c) (J c)) → (c : ℕ) → c < n
      → Under (lfp n top U c) (J c)
  unfolding lfp
  lfp_under J w u = iter_under J w u (n * (top + top))

  pub lfp_least : IsLeast n top U (lfp n top U)
  lfp_least = record { within = lfp_within; fixed = lfp_fixed; least = λ J w f. lfp_under J w (λ c l. under_eq (sym (f c l))) }

-- there is one least fixed point
pub least_unique : {n top : ℕ} {U : Assign → ℕ → Interval} {P Q : Assign} → IsLeast n top U P → IsLeast n top U Q → (c : ℕ) → c < n
    → P c ≡ Q c
least_unique {P = P} {Q = Q} p q c l = under_antisym (p.least Q q.within q.fixed c l) (q.least P p.within p.fixed c l)
