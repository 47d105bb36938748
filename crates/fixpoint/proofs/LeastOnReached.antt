-- Least on what is reached: the readings there are told by what is reached alone. Assumes nothing.
use mathlib.Core.Path.{◌≡◌, refl, sym}
use mathlib.Core.Bool.{Bool, true, false, cond}
use Prim.Native.Nat.{ℕ, zero, suc, ◌+◌, ◌*◌, ◌<◌}
use native.Mathlib.Omega.{arith}
use Rattle.fixpoint.specs.Interval.{Interval, Within, Assign}
use Rattle.fixpoint.specs.KnowledgeOrder.{Under, Alike, bottom}
use Rattle.fixpoint.specs.System.{System}
use Rattle.fixpoint.specs.LeastFixpoint.{Operator, IsLeast, iter, lfp}
use Rattle.fixpoint.specs.ChaoticIteration.{DependencyClosed}
use Rattle.fixpoint.specs.Support.{close}
use Rattle.fixpoint.specs.WellFounded.{IsClosedReading, closed}
use Rattle.fixpoint.specs.Reachable.{IsLeastOn}
use Rattle.fixpoint.proofs.KnowledgeOrder.{under_refl, under_trans, under_antisym, under_eq}
use Rattle.fixpoint.proofs.LeastFixpoint.{lfp_within, lfp_fixed}
use Rattle.fixpoint.proofs.PlainReading.{operator}
use Rattle.fixpoint.proofs.WellFounded.{close_operator, closed_reading, closed_unique, plain_under_closed}
use Rattle.fixpoint.proofs.Reachable.{T_alike, close_alike}

module _ {n top : ℕ} {U : Assign → ℕ → Interval} (O : Operator n top U) {reached : ℕ → Bool} (alike : (I J : Assign) → Alike n reached I J → Alike n reached (U I) (U J)) where
  -- U is monotone in what is reached
  pub mono_on : (I J : Assign) → ((c : ℕ) → c < n → reached c ≡ true → Under (I c) (J c)) → (c : ℕ) → c < n → reached c ≡ true
      → Under (U I c) (U J c)
  mono_on I J h c l r =
      under_trans (O.mono I both (λ b m. go b m (reached b) refl) c l) (under_eq (alike both J (λ b m e. rw e) c l r))
    where
      both : Assign
      both b = cond (reached b) (J b) (I b)

      go : (b : ℕ) → b < n → (t : Bool) → reached b ≡ t → Under (I b) (cond t (J b) (I b))
      go b m true e = h b m e
      go b m false e = under_refl (I b)

  iter_under_on : (J : Assign) → ((c : ℕ) → c < n → reached c ≡ true → Within top (J c))
      → ((c : ℕ) → c < n → reached c ≡ true → Under (U J c) (J c))
      → (k c : ℕ) → c < n → reached c ≡ true → Under (iter top U k c) (J c)
  unfolding iter bottom
  iter_under_on J w u zero c l r = omega (arith, w c l r)
  iter_under_on J w u (suc k) c l r = under_trans (mono_on (iter top U k) J (iter_under_on J w u k) c l r) (u c l r)

  pub lfp_under_on : (J : Assign) → ((c : ℕ) → c < n → reached c ≡ true → Within top (J c))
      → ((c : ℕ) → c < n → reached c ≡ true → Under (U J c) (J c))
      → (c : ℕ) → c < n → reached c ≡ true → Under (lfp n top U c) (J c)
  unfolding lfp
  lfp_under_on J w u = iter_under_on J w u (n * (top + top))

  pub lfp_least_on : IsLeastOn n top U reached (lfp n top U)
  lfp_least_on =
      record {
        within = λ c l r. lfp_within O c l;
        fixed = λ c l r. lfp_fixed O c l;
        least = λ J w f. lfp_under_on J w (λ c l r. under_eq (sym (f c l r)));
      }

pub least_on_unique : {n top : ℕ} {U : Assign → ℕ → Interval} {reached : ℕ → Bool} {P Q : Assign} → IsLeastOn n top U reached P
    → IsLeastOn n top U reached Q → Alike n reached P Q
least_on_unique {P = P} {Q = Q} p q c l r = under_antisym (p.least Q q.within q.fixed c l r) (q.least P p.within p.fixed c l r)

module _ {n top : ℕ} {T : Assign → ℕ → Interval} {names : ℕ → ℕ → Bool} (S : System n top T names)
    {reached : ℕ → Bool} (shut : DependencyClosed n names reached) where
  pub plain_least_on : IsLeastOn n top T reached (lfp n top T)
  plain_least_on = lfp_least_on (operator S) (T_alike S shut (λ I c l r. refl) {free = λ c. false} (λ c l r. refl))

  pub closed_least_on : (free : ℕ → Bool) → IsLeastOn n top (close n top T free) reached (closed n top T free)
  unfolding closed
  closed_least_on free = lfp_least_on (close_operator (operator S) free) (close_alike S shut (λ I c l r. refl) (λ c l r. refl))

-- the closed reading lies inside the plain one
pub reading_inside : {n top : ℕ} {T : Assign → ℕ → Interval} {free : ℕ → Bool} → Operator n top T → {P C : Assign} → IsLeast n top T P
    → IsClosedReading n top T free C → (c : ℕ) → c < n → Under (P c) (C c)
reading_inside {free = free} O {P} p q c l = under_trans (plain_under_closed O free P p c l) (under_eq (closed_unique O free (closed_reading O free) q c l))
