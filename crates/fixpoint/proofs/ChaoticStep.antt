-- A step of a chaotic iteration keeps what every run keeps, and makes its measure fall. Assumes nothing.
--
-- Asked of the goal P: that it is the least fixed point, and not crossed on what is reached. All that a run holds is under P, so it is not
-- crossed either, and an interval that changes gets narrower.
use mathlib.Core.Path.{◌≡◌, refl, sym, ◌∙◌, ap, subst}
use mathlib.Core.Logic.{inl, inr, ◌≢◌}
use mathlib.Core.Bool.{Bool, true, false, not, ◌&&◌, ◌||◌, true≢false, false≢true, and-true as and_right}
use Prim.Native.Nat.{ℕ, suc, ◌+◌, ◌*◌, ◌≤◌, ◌<◌}
use native.Mathlib.Nat.{mul-le-mul_left}
use native.Mathlib.Decide.{ℕ_discrete, dec_le}
use native.Mathlib.Omega.{arith}
use lib.Dec.{eqb}
use borrow.Author.Tests.{eq-eqb, ne_eqb}
use Rattle.fixpoint.specs.Interval.{Interval, Within, Ordered, Assign, same}
use Rattle.fixpoint.specs.KnowledgeOrder.{Under}
use Rattle.fixpoint.specs.System.{System}
use Rattle.fixpoint.specs.LeastFixpoint.{IsLeast}
use Rattle.fixpoint.specs.Sum.{bit, count, namers}
use Rattle.fixpoint.specs.ChaoticIteration.{woken, DependencyClosed, Step, slack, Kept}
use Rattle.fixpoint.proofs.Sum.{sum_le, sum_drop, sum_add, sum_zero}
use Rattle.fixpoint.proofs.KnowledgeOrder.{under_refl, under_trans, width, width_le, width_eq}
use Rattle.fixpoint.proofs.Evaluation.{or_false, or_true, and_true, bit_or, bit_and, same_true, same_refl, put_same, put_other}

module _ {n top : ℕ} {T : Assign → ℕ → Interval} {names : ℕ → ℕ → Bool} (S : System n top T names)
    {reached : ℕ → Bool} (closed : DependencyClosed n names reached) {P : Assign} (least : IsLeast n top T P) (sane : (c : ℕ) → c < n → reached c ≡ true → Ordered (P c))
    {A : ℕ} {I I' : Assign} {W W' : ℕ → Bool} {k : ℕ}
    (K : Kept n top T names reached P I W k) (s : Step n T names reached A I W I' W') where
  here : I' A ≡ T I A
  here = s.puts A s.real ∙ put_same I A (T I A)

  away : (c : ℕ) → c < n → c ≢ A → I' c ≡ I c
  away c l h = s.puts c l ∙ put_other I A (T I A) c h

  A_reached : reached A ≡ true
  A_reached = K.inside A s.real s.waits

  -- a fact of every pair of I' is a fact of T I A and of the others' pairs
  by_case : (Q : ℕ → Interval → Type 0) → Q A (T I A) → ((c : ℕ) → c < n → c ≢ A → Q c (I c)) → (c : ℕ) → c < n → Q c (I' c)
  by_case Q h g c l =
      elim (ℕ_discrete c A) [
        | yes e ↦ subst (λ (b : ℕ). Q b (I' b)) (sym e) (subst (Q A) (sym here) h)
        | no e ↦ subst (Q c) (sym (away c l e)) (g c l e)
      ]

  rises : (c : ℕ) → c < n → Under (I c) (I' c)
  rises = by_case (λ c p. Under (I c) p) (K.grows A s.real A_reached) (λ c l h. under_refl (I c))

  -- what the step puts is under P, and so it is ordered
  put_known : Under (T I A) (P A)
  put_known = subst (λ (r : Interval). Under (T I A) r) (sym (least.fixed A s.real)) (S.mono I P K.known A s.real)

  known' : (c : ℕ) → c < n → Under (I' c) (P c)
  known' = by_case (λ c p. Under p (P c)) put_known (λ c l h. K.known c l)

  T_rises : (c : ℕ) → c < n → Under (T I c) (T I' c)
  T_rises = S.mono I I' rises

  grows' : (c : ℕ) → c < n → reached c ≡ true → Under (I' c) (T I' c)
  grows' =
      by_case (λ c p. reached c ≡ true → Under p (T I' c)) (λ r. T_rises A s.real)
      (λ c l h r. under_trans (K.grows c l r) (T_rises c l))

  ordered' : (c : ℕ) → c < n → Ordered (I' c)
  ordered' = by_case (λ c p. Ordered p) (omega (arith, put_known, sane A s.real A_reached)) (λ c l h. K.ordered c l)

  within' : (c : ℕ) → c < n → Within top (I' c)
  within' = by_case (λ c p. Within top p) (S.bounded I K.within A s.real) (λ c l h. K.within c l)

  changed : Bool
  changed = not (same (I A) (T I A))

  unchanged : changed ≡ false → (c : ℕ) → c < n → I' c ≡ I c
  unfolding changed
  unchanged e = by_case (λ c p. p ≡ I c) (go (same (I A) (T I A)) refl e) (λ c l h. refl)
    where
      go : (t : Bool) → same (I A) (T I A) ≡ t → not t ≡ false → T I A ≡ I A
      go true q e = sym (same_true _ _ q)
      go false q e = absurd (true≢false e)

  -- the two ways to wait after the step
  stayed : ℕ → Bool
  stayed c = W c && not (eqb c A)

  woke : ℕ → Bool
  woke c = changed && (reached c && names c A)

  waiting : (c : ℕ) → c < n → W' c ≡ (stayed c || woke c)
  unfolding stayed woke changed woken
  waiting c l = s.wakes c l

  inside' : (c : ℕ) → c < n → W' c ≡ true → reached c ≡ true
  unfolding stayed woke
  inside' c l e =
      elim (or_true (stayed c) (woke c) (sym (waiting c l) ∙ e)) [
        | inl h ↦ K.inside c l (and_true (W c) _ h).0
        | inr h ↦ (and_true (reached c) _ (and_true changed _ h).1).0
      ]

  -- what is not woken does not see the change
  unseen : (c : ℕ) → c < n → reached c ≡ true → woke c ≡ false → T I c ≡ T I' c
  unfolding woke
  unseen c l r e = S.local I I' c l (go changed refl e)
    where
      go : (t : Bool) → changed ≡ t → (t && (reached c && names c A)) ≡ false → (b : ℕ) → b < n → names c b ≡ true → I b ≡ I' b
      go false q e b m h = sym (unchanged q b m)
      go true q e b m h =
          sym (away b m (λ d. true≢false (sym h ∙ ap (names c) d ∙ (rw r at e))))

  left : (c : ℕ) → c ≢ A → stayed c ≡ false → W c ≡ false
  unfolding stayed
  left c h q = sym (and_right (W c)) ∙ (rw (ne_eqb c A h) at q)

  settled' : (c : ℕ) → c < n → reached c ≡ true → W' c ≡ false → I' c ≡ T I' c
  settled' c l r e =
      let h : (stayed c ≡ false) × (woke c ≡ false) = or_false (stayed c) (woke c) (sym (waiting c l) ∙ e) in
      by_case (λ c p. reached c ≡ true → stayed c ≡ false → p ≡ T I c) (λ r q. refl)
      (λ c l d r q. K.settled c l r (left c d q)) c l r h.0
      ∙ unseen c l r h.1

  -- how many the step woke
  woken_count : ℕ
  woken_count = count n woke

  stayed_count : count n stayed + 1 ≤ count n W
  unfolding stayed
  stayed_count =
      sum_drop n (λ c. bit (stayed c)) (λ c. bit (W c)) 1 A s.real (λ c l h. bit_and (W c) (not (eqb c A)))
      (rw (s.waits, eq-eqb A A refl) (omega arith))

  fewer : count n W' + 1 ≤ count n W + woken_count
  unfolding woken_count
  fewer =
      omega (
        arith,
        stayed_count,
        sum_add n (λ c. bit (stayed c)) (λ c. bit (woke c)),
        sum_le n (λ c. bit (W' c)) (λ c. bit (stayed c) + bit (woke c)) (λ c l. rw (waiting c l) (bit_or (stayed c) (woke c))),
      )

  narrower : changed ≡ true → width (I' A) + 1 ≤ width (I A)
  unfolding changed
  narrower e =
      elim (dec_le (width (I A)) (width (I' A))) [
        | yes h ↦ absurd (go (width_eq (rises A s.real) (ordered' A s.real) (omega (arith, width_le (rises A s.real)))))
        | no h ↦ omega arith
      ]
    where
      go : I A ≡ I' A → ⊥
      go q = false≢true (sym (ap not (subst (λ (r : Interval). same (I A) r ≡ true) (q ∙ here) (same_refl (I A)))) ∙ e)

  narrow : (c : ℕ) → c < n → namers n names reached c * width (I' c) ≤ namers n names reached c * width (I c)
  narrow c l = mul-le-mul_left (namers n names reached c) (width_le (rises c l))

  slack_drop : slack n names reached I' + woken_count ≤ slack n names reached I
  unfolding woken_count woke
  slack_drop = go changed refl
    where
      go : (t : Bool) → changed ≡ t → slack n names reached I' + count n (λ c. t && (reached c && names c A)) ≤ slack n names reached I
      go false q =
          omega (
            arith,
            sum_zero n,
            sum_le n (λ b. namers n names reached b * width (I' b)) (λ b. namers n names reached b * width (I b)) (λ c l. narrow c l),
          )
      go true q =
          sum_drop n (λ b. namers n names reached b * width (I' b)) (λ b. namers n names reached b * width (I b))
          (namers n names reached A) A s.real (λ c l h. narrow c l)
          (omega (arith, mul-le-mul_left (namers n names reached A) (narrower q)))

  -- a measure for a loop that counts nothing
  pub falls : count n W' + slack n names reached I' < count n W + slack n names reached I
  falls = omega (arith, fewer, slack_drop)

  pub kept : Kept n top T names reached P I' W' (suc k)
  kept =
      record {
        known = known';
        grows = grows';
        settled = settled';
        ordered = ordered';
        within = within';
        inside = inside';
        spent = omega (arith, K.spent, fewer, slack_drop);
      }
