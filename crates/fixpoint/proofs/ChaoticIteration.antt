-- Chaotic iteration: in whatever order conditions are evaluated, the run ends in time and at the least fixed point. Assumes nothing.
use mathlib.Core.Path.{◌≡◌, refl, sym, ◌∙◌, subst}
use mathlib.Core.Bool.{Bool, true, false, ◌&&◌, true≢false}
use Prim.Native.Nat.{ℕ, zero, suc, ◌+◌, ◌*◌, ◌≤◌, ◌<◌}
use native.Mathlib.Nat.{mul-le-mul_left}
use native.Mathlib.Omega.{arith}
use Rattle.fixpoint.specs.Interval.{Interval, Within, Ordered, Assign}
use Rattle.fixpoint.specs.KnowledgeOrder.{Under, bottom}
use Rattle.fixpoint.specs.System.{System}
use Rattle.fixpoint.specs.LeastFixpoint.{IsLeast, iter, lfp}
use Rattle.fixpoint.specs.Sum.{sum, bit, count, namers}
use Rattle.fixpoint.specs.ChaoticIteration.{DependencyClosed, edges, slack, budget, Kept, Run, start, step}
use Rattle.fixpoint.proofs.Sum.{sum_le, sum_eq, sum_scale, sum_entry, sum_swap}
use Rattle.fixpoint.proofs.KnowledgeOrder.{under_antisym, width}
use Rattle.fixpoint.proofs.LeastFixpoint.{least_unique}
use Rattle.fixpoint.proofs.PlainReading.{plain_least}
use Rattle.fixpoint.proofs.Evaluation.{bit_false, mono_at}
use Rattle.fixpoint.proofs.ChaoticStep.{kept}

module _ {n top : ℕ} {T : Assign → ℕ → Interval} {names : ℕ → ℕ → Bool} (S : System n top T names) where
  -- a run may start from any bounded and ordered assignment between nothing and what it makes, under the least fixed point
  pub kept_from : {reached : ℕ → Bool} {P I : Assign} {W : ℕ → Bool} → ((c : ℕ) → c < n → Under (I c) (P c))
      → ((c : ℕ) → c < n → Ordered (I c)) → ((c : ℕ) → c < n → Within top (I c))
      → ((c : ℕ) → c < n → reached c ≡ true → Under (I c) (T I c))
      → ((c : ℕ) → c < n → W c ≡ true → reached c ≡ true)
      → ((c : ℕ) → c < n → reached c ≡ true → W c ≡ false → I c ≡ T I c)
      → Kept n top T names reached P I W 0
  kept_from {reached} {P} {I} {W} k o w g i s =
      record {
        known = k;
        grows = g;
        settled = s;
        ordered = o;
        within = w;
        inside = i;
        spent = omega (
          arith,
          sum_le n (λ c. bit (W c)) (λ c. bit (reached c)) (λ c l. fewer (W c) (reached c) (i c l)),
          sum_scale n top (namers n names reached),
          sum_le n (λ c. namers n names reached c * width (I c)) (λ c. namers n names reached c * top) (λ c l. mul-le-mul_left (namers n names reached c) (omega (arith, w c l))),
        );
      }
    where
      fewer : (a b : Bool) → (a ≡ true → b ≡ true) → bit a ≤ bit b
      fewer true b h = rw (h refl) (omega arith)
      fewer false b h = omega arith

module _ {n top : ℕ} {T : Assign → ℕ → Interval} {names : ℕ → ℕ → Bool} (S : System n top T names)
    {reached : ℕ → Bool} (closed : DependencyClosed n names reached) {P : Assign} (least : IsLeast n top T P) where
  pub kept_first : {I : Assign} {W : ℕ → Bool} → ((c : ℕ) → c < n → I c ≡ bottom top c) → ((c : ℕ) → c < n → W c ≡ reached c)
      → Kept n top T names reached P I W 0
  unfolding bottom
  kept_first {I} b w =
      kept_from S (λ c l. rw (b c l) (omega (arith, least.within c l))) (λ c l. rw (b c l) (omega arith)) within (λ c l r. rw (b c l) (omega (arith, S.bounded I within c l)))
      (λ c l e. sym (w c l) ∙ e) (λ c l r e. absurd (true≢false (sym r ∙ sym (w c l) ∙ e)))
    where
      within : (c : ℕ) → c < n → Within top (I c)
      within c l = rw (b c l) (omega arith)

  pub run_kept : ((c : ℕ) → c < n → reached c ≡ true → Ordered (P c)) → {I : Assign} {W : ℕ → Bool} {k : ℕ}
      → Run n top T names reached I W k → Kept n top T names reached P I W k
  run_kept sane (start b w) = kept_first b w
  run_kept sane (step r s) = kept S closed least sane (run_kept sane r) s

  module _ {I : Assign} {W : ℕ → Bool} {k : ℕ} (K : Kept n top T names reached P I W k) where
    pub in_time : k ≤ budget n top names reached
    in_time = omega (arith, K.spent)

    pub none_waits : k ≡ budget n top names reached → (c : ℕ) → c < n → W c ≡ false
    none_waits e c l = bit_false (W c) (omega (arith, K.spent, sum_entry n (λ a. bit (W a)) c l))

    reaches : ((c : ℕ) → c < n → W c ≡ false) → (m c : ℕ) → c < n → reached c ≡ true → Under (iter top T m c) (I c)
    unfolding iter bottom
    reaches q zero c l r = omega (arith, K.within c l)
    reaches q (suc m) c l r =
        subst (λ (p : Interval). Under (T (iter top T m) c) p) (sym (K.settled c l r (q c l)))
        (mono_at S (iter top T m) I c l (λ b i e. reaches q m b i (closed c b l i r e)))

    pub done : ((c : ℕ) → c < n → W c ≡ false) → (c : ℕ) → c < n → reached c ≡ true → I c ≡ P c
    unfolding lfp
    done q c l r =
        under_antisym (K.known c l)
        (subst (λ (p : Interval). Under p (I c)) (least_unique (plain_least S) least c l) (reaches q (n * (top + top)) c l r))

-- the slack and the edges, as sums over the ordered pairs of a reached condition and one that it names
pub slack_pairs : (n : ℕ) (names : ℕ → ℕ → Bool) (reached : ℕ → Bool) (I : Assign)
    → slack n names reached I ≡ sum n (λ a. sum n (λ b. bit (reached a && names a b) * width (I b)))
slack_pairs n names reached I =
    sum_eq n _ _ (λ b l. sym (sum_scale n (width (I b)) (λ a. bit (reached a && names a b))))
    ∙ sum_swap n n (λ b a. bit (reached a && names a b) * width (I b))

pub edges_pairs : (n : ℕ) (names : ℕ → ℕ → Bool) (reached : ℕ → Bool)
    → edges n names reached ≡ sum n (λ a. count n (λ b. reached a && names a b))
edges_pairs n names reached = sum_swap n n (λ b a. bit (reached a && names a b))
