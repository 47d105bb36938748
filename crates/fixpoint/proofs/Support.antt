-- The support exists, is unique, and knows more where more is known. Assumes nothing.
use mathlib.Core.Path.{◌≡◌, refl, ◌∙◌, ap}
use mathlib.Core.Bool.{Bool, true, false, cond, false≢true}
use Prim.Native.Nat.{ℕ, zero, suc, ◌+◌, ◌*◌, ◌≤◌, ◌<◌, min}
use native.Mathlib.Nat.{le_refl}
use native.Mathlib.Omega.{arith}
use Rattle.fixpoint.specs.Interval.{Interval, Within, Assign}
use Rattle.fixpoint.specs.KnowledgeOrder.{Under, bottom, unknown, join, certainly_false}
use Rattle.fixpoint.specs.LeastFixpoint.{Operator, iter, lfp}
use Rattle.fixpoint.specs.Support.{Safe, IsSupport, roof, raise, support, close}
use Rattle.fixpoint.proofs.Cond.{cond_true, cond_false, cond_le, cond_most, cond_least}
use Rattle.fixpoint.proofs.KnowledgeOrder.{under_antisym}
use Rattle.fixpoint.proofs.LeastFixpoint.{lfp_within, lfp_fixed, lfp_under}

-- the default assumption by cases: no low end over 0 anywhere, and nothing known of the free conditions
assumption_low : (t : Bool) (top : ℕ) {p : Interval} → Under p (cond t (unknown top) certainly_false) → Under p certainly_false
assumption_low true top h = omega arith
assumption_low false top h = h

assumption_free : (t : Bool) (top : ℕ) {p : Interval} → Under p (cond t (unknown top) certainly_false) → t ≡ true → Under p (unknown top)
assumption_free true top h e = h
assumption_free false top h e = absurd (false≢true e)

assumption_by : (t : Bool) (top : ℕ) {p : Interval} → Under p certainly_false → (t ≡ true → p.high ≡ top) → Under p (cond t (unknown top) certainly_false)
assumption_by true top h e = omega (arith, e refl)
assumption_by false top h e = h

pub only_high : {n top : ℕ} {T : Assign → ℕ → Interval} {free : ℕ → Bool} {I J : Assign} → Safe n top T free I J → (c : ℕ) → c < n
    → Under (J c) certainly_false
only_high {top = top} {free = free} s c l = assumption_low (free c) top (s.assumed c l)

pub silent : {n top : ℕ} {T : Assign → ℕ → Interval} {free : ℕ → Bool} {I J : Assign} → Safe n top T free I J → (c : ℕ) → c < n
    → free c ≡ true → (J c).high ≡ top
silent {top = top} {free = free} s c l e = omega (arith, s.within c l, assumption_free (free c) top (s.assumed c l) e)

pub safe_by : {n top : ℕ} {T : Assign → ℕ → Interval} {free : ℕ → Bool} {I J : Assign} → ((c : ℕ) → c < n → Within top (J c))
    → ((c : ℕ) → c < n → Under (J c) certainly_false) → ((c : ℕ) → c < n → free c ≡ true → (J c).high ≡ top)
    → ((c : ℕ) → c < n → Under (J c) (T (join I J) c)) → Safe n top T free I J
safe_by {top = top} {free = free} w h e b = record { within = w; assumed = λ c l. assumption_by (free c) top (h c l) (e c l); borne = b }

-- there is one support
pub support_unique : {n top : ℕ} {T : Assign → ℕ → Interval} {free : ℕ → Bool} {I J K : Assign} → IsSupport n top T free I J
    → IsSupport n top T free I K → (c : ℕ) → c < n → J c ≡ K c
support_unique {J = J} {K = K} p q c l = under_antisym (q.greatest J p.safe c l) (p.greatest K q.safe c l)

module _ {n top : ℕ} {T : Assign → ℕ → Interval} (O : Operator n top T) (free : ℕ → Bool) where
  abbrev In : Assign → Type 0
  In I = (c : ℕ) → c < n → Within top (I c)

  pub raise_operator : (I : Assign) → In I → Operator n top (raise top T free I)
  unfolding raise roof
  raise_operator I w =
      record {
        mono = λ X Y h c l.
            record {
              lows = cond_le (free c) (λ e. le_refl top) (λ e. (O.mono (join I (roof Y)) (join I (roof X)) (λ b m. omega (arith, h b m)) c l).highs);
              highs = le_refl top;
            };
        bounded = λ X h c l.
            record {
              low_in = cond_most (free c) (λ e. le_refl top) (λ e. (O.bounded (join I (roof X)) (λ b m. omega (arith, h b m, w b m)) c l).high_in);
              high_in = le_refl top;
            };
      }

  pub support_within : (I : Assign) → In I → In (support n top T free I)
  unfolding support roof
  support_within I w c l = omega (arith, lfp_within (raise_operator I w) c l)

  -- the support of a free condition is [0; top], and of any other what T makes of it
  support_by_free : (I : Assign) → In I → (c : ℕ) → c < n
      → (support n top T free I c).high ≡ cond (free c) top (close n top T free I c).high
  unfolding support close raise roof
  support_by_free I w c l = ap (λ (p : Interval). p.low) (lfp_fixed (raise_operator I w) c l)

  pub support_fixed : (I : Assign) → In I → (c : ℕ) → c < n → free c ≡ false → (support n top T free I c).high ≡ (close n top T free I c).high
  support_fixed I w c l e = support_by_free I w c l ∙ cond_false top (close n top T free I c).high e

  pub support_free : (I : Assign) → In I → (c : ℕ) → c < n → free c ≡ true → (support n top T free I c).high ≡ top
  support_free I w c l e = support_by_free I w c l ∙ cond_true top (close n top T free I c).high e

  close_within : (I : Assign) → In I → In (close n top T free I)
  unfolding close
  close_within I w = O.bounded (join I (support n top T free I)) (λ b m. omega (arith, w b m, support_within I w b m))

  -- T bears the support out
  pub support_borne : (I : Assign) → In I → (c : ℕ) → c < n → (close n top T free I c).high ≤ (support n top T free I c).high
  support_borne I w c l = omega (arith, support_by_free I w c l, cond_least (free c) (λ e. (close_within I w c l).high_in) (λ e. le_refl (close n top T free I c).high))

  -- whatever is safe lies under the support
  above : (I : Assign) → In I → (K : Assign) → Safe n top T free I K → (c : ℕ) → c < n → Under (K c) (support n top T free I c)
  unfolding support roof raise
  above I w K s c l =
      omega (arith, only_high s c l, lfp_under (raise_operator I w) X (λ b m. omega arith) lowers c l)
    where
      X : Assign
      X b = record { low = min top (K b).high; high = top }

      lowers : (b : ℕ) → b < n → Under (raise top T free I X b) (X b)
      lowers b m =
          record {
            lows =
                cond_most (free b) (λ e. omega (arith, silent s b m e))
                (λ e. omega (
                  arith,
                  s.borne b m,
                  O.bounded (join I (roof X)) (λ a i. omega (arith, w a i)) b m,
                  O.mono (join I K) (join I (roof X)) (λ a i. omega (arith, only_high s a i)) b m,
                ));
            highs = le_refl top;
          }

  -- the support is a support
  pub support_is : (I : Assign) → In I → IsSupport n top T free I (support n top T free I)
  support_is I w = record { safe = safe_by (support_within I w) only (support_free I w) borne; greatest = above I w }
    where
      only : (c : ℕ) → c < n → Under (support n top T free I c) certainly_false
      only c l = unfold support roof in omega arith

      borne : (c : ℕ) → c < n → Under (support n top T free I c) (T (join I (support n top T free I)) c)
      borne c l = unfold close in omega (arith, only c l, support_borne I w c l)

  -- more known of I, more known of its support
  raise_mono : (I J : Assign) → ((c : ℕ) → c < n → Under (I c) (J c)) → (k c : ℕ) → c < n
      → (iter top (raise top T free J) k c).low ≤ (iter top (raise top T free I) k c).low
  unfolding iter bottom raise roof
  raise_mono I J h zero c l = omega arith
  raise_mono I J h (suc k) c l =
      cond_le (free c) (λ e. le_refl top)
      (λ e. (O.mono (join I (roof (iter top (raise top T free I) k))) (join J (roof (iter top (raise top T free J) k))) (λ b m. omega (arith, h b m, raise_mono I J h k b m)) c l).highs)

  pub support_mono : (I J : Assign) → ((c : ℕ) → c < n → Under (I c) (J c)) → (c : ℕ) → c < n
      → Under (support n top T free I c) (support n top T free J c)
  unfolding support roof lfp
  support_mono I J h c l = omega (arith, raise_mono I J h (n * (top + top)) c l)
