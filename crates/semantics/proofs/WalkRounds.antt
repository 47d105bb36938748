-- Without a walk back through a negation, n - 1 rounds of the layers' iteration are enough. Assumes nothing.
use mathlib.Core.Path.{◌≡◌, refl, sym, ap, subst}
use mathlib.Core.Bool.{Bool, true, false}
use mathlib.Core.Logic.{◌⊎◌, inl, inr}
use Prim.Native.Nat.{ℕ, zero, suc, ◌+◌, ◌*◌, ◌-◌, ◌≤◌, ◌<◌}
use native.Mathlib.Decide.{dec_le}
use native.Mathlib.Omega.{arith}
use lib.Dec.{leb}
use borrow.Author.Tests.{le-leb, lt-leb, leb-true, leb-false}
use Rattle.fixpoint.specs.KnowledgeOrder.{bottom}
use Rattle.fixpoint.specs.LeastFixpoint.{iter, lfp}
use Rattle.fixpoint.specs.Sum.{bit, count}
use Rattle.fixpoint.proofs.Sum.{sum_le, sum_drop, sum_const, sum_entry}
use Rattle.fixpoint.proofs.KnowledgeOrder.{under_eq}
use Rattle.fixpoint.proofs.LeastFixpoint.{iter_under, iter_grows, iter_later, lfp_within, lfp_fixed}
use Rattle.semantics.proofs.Walks.{LayersOn, Loop, largest_ge, largest_at, largest_le, bit_le, climb, climb_mono, lift, lift_operator, layer, layer_step, free_layers, lowest}

module _ (n : ℕ) (plain negated : ℕ → ℕ → Bool) where
  abbrev at : ℕ → ℕ → ℕ
  at k c = (iter n (lift n plain negated) k c).low

  abbrev lay : ℕ → ℕ
  lay = layer n plain negated

  abbrev up_to : ℕ → ℕ → ℕ → ℕ
  up_to a b v = climb n (negated a b) (plain a b) v

  at_le : (k c : ℕ) → c < n → at k c ≤ lay c
  unfolding layer
  at_le k c l =
      (iter_under (lift_operator n plain negated) (lfp n n (lift n plain negated)) (lfp_within (lift_operator n plain negated))
      (λ b m. under_eq (sym (lfp_fixed (lift_operator n plain negated) b m))) k c l).lows

  at_grows : (k c : ℕ) → c < n → at k c ≤ at (suc k) c
  at_grows k c l = (iter_grows (lift_operator n plain negated) k c l).lows

  at_step : (k a b : ℕ) → b < n → up_to a b (at k b) ≤ at (suc k) a
  unfolding iter lift
  at_step k a b m = largest_ge n (λ c. climb n (negated a c) (plain a c) (iter n (lift n plain negated) k c).low) b m

  at_from : (k a v : ℕ) → v < at (suc k) a → (b : ℕ) × (b < n) × (v < up_to a b (at k b))
  unfolding iter lift
  at_from k a v h = largest_at n (λ c. climb n (negated a c) (plain a c) (iter n (lift n plain negated) k c).low) v h

  module _ (free : (a : ℕ) → a < n → Loop n plain negated a → ⊥) where
    below : (c : ℕ) → c < n → lay c < n
    below = (free_layers n plain negated free).1

    -- below the cut a step keeps what differs apart
    tight : (p q : Bool) (v w : ℕ) → v ≤ w → w < n → 0 < climb n p q v → climb n p q w ≤ climb n p q v → w ≤ v
    tight true q v w h l z e = omega arith
    tight false true v w h l z e = e
    tight false false v w h l z e = absurd (omega arith)

    -- what is settled at k + 1 and not at 0 rests on something settled at k
    rests : (k a : ℕ) → a < n → 0 < lay a → lay a ≤ at (suc k) a → (b : ℕ) × (b < n) × (lay b ≤ at k b) × (lay a ≤ up_to a b (lay b))
    rests k a l z h =
        elim (lay a) as (λ y. y ≡ lay a → (b : ℕ) × (b < n) × (lay b ≤ at k b) × (lay a ≤ up_to a b (lay b))) [
          | zero ↦ λ e. absurd (omega arith)
          | suc v ↦ λ e.
              let r : (b : ℕ) × (b < n) × (v < up_to a b (at k b)) = at_from k a v (omega arith) in
              let up : up_to a r.0 (at k r.0) ≤ up_to a r.0 (lay r.0) = climb_mono n plain negated (negated a r.0) (plain a r.0) _ _ (at_le k r.0 r.1) in
              let st : up_to a r.0 (lay r.0) ≤ lay a = layer_step n plain negated a r.0 l r.1 in
              (r.0, r.1, tight (negated a r.0) (plain a r.0) _ _ (at_le k r.0 r.1) (below r.0 r.1) (omega (arith, r.2)) (omega (arith, r.2)), omega (arith, r.2))
        ] refl

    -- from something not settled at k, to something that settles at k + 1
    next : (k j a : ℕ) → a < n → at k a < lay a → lay a ≤ at (suc (j + k)) a → (b : ℕ) × (b < n) × (at k b < lay b) × (lay b ≤ at (suc k) b)
    next k zero a l u s = (a, l, u, subst (λ (i : ℕ). lay a ≤ at (suc i) a) (omega arith) s)
    next k (suc j) a l u s =
        let r : (b : ℕ) × (b < n) × (lay b ≤ at (suc j + k) b) × (lay a ≤ up_to a b (lay b)) = rests (suc j + k) a l (omega arith) s in
        let q : suc j + k ≡ suc (j + k) = omega arith in
        elim (dec_le (lay r.0) (at k r.0)) [
          | yes h ↦
              let e : at k r.0 ≡ lay r.0 = omega (arith, at_le k r.0 r.1) in
              let f : up_to a r.0 (at k r.0) ≡ up_to a r.0 (lay r.0) = ap (λ (v : ℕ). up_to a r.0 v) e in
              (a, l, u, omega (arith, r.3, at_step k a r.0 r.1))
          | no h ↦ next k j r.0 r.1 (omega arith) (subst (λ (i : ℕ). lay r.0 ≤ at i r.0) q r.2)
        ]

    -- in the end all are settled
    finally : (k a : ℕ) → a < n → lay a ≤ at (suc (n * (n + n) + k)) a
    unfolding layer lfp
    finally k a l = (iter_later (lift_operator n plain negated) (n * (n + n)) (suc (n * (n + n) + k)) (omega arith) a l).lows

    settled : ℕ → ℕ
    settled k = count n (λ c. leb (lay c) (at k c))

    bit_mono : (p q : Bool) → (p ≡ true → q ≡ true) → bit p ≤ bit q
    bit_mono true q h = rw (h refl) (omega arith)
    bit_mono false q h = omega arith

    -- each round settles one more, while one is left
    one_more : (k a : ℕ) → a < n → at k a < lay a → settled k + 1 ≤ settled (suc k)
    unfolding settled
    one_more k a l u =
        let r : (b : ℕ) × (b < n) × (at k b < lay b) × (lay b ≤ at (suc k) b) = next k (n * (n + n)) a l u (finally k a l) in
        let before : leb (lay r.0) (at k r.0) ≡ false = lt-leb _ _ r.2 in
        let after : leb (lay r.0) (at (suc k) r.0) ≡ true = le-leb _ _ r.3 in
        sum_drop n (λ c. bit (leb (lay c) (at k c))) (λ c. bit (leb (lay c) (at (suc k) c))) 1 r.0 r.1 (λ c m x. bit_mono (leb (lay c) (at k c)) _ (λ e. le-leb (lay c) (at (suc k) c) (omega (arith, leb-true (lay c) (at k c) e, at_grows k c m)))) (rw (before, after) (omega arith))

    abbrev Done : ℕ → Type 0
    Done k = (c : ℕ) → c < n → lay c ≤ at k c

    done? : (k : ℕ) → Done k ⊎ ((a : ℕ) × (a < n) × (at k a < lay a))
    done? k =
        elim (lowest (λ c. leb (suc (at k c)) (lay c)) n) [
          | inl r ↦ inr (r.0, r.1, leb-true _ _ r.2)
          | inr h ↦ inl (λ c l. omega (arith, leb-false (suc (at k c)) (lay c) (h c l)))
        ]

    -- some layer is 0: else all could be one less
    ground : 0 < n → 1 ≤ settled 0
    unfolding settled
    ground pos =
        elim (lowest (λ c. leb (lay c) (at 0 c)) n) [
          | inl r ↦
              let e : bit (leb (lay r.0) (at 0 r.0)) ≡ 1 = rw r.2 in
              omega (arith, sum_entry n (λ c. bit (leb (lay c) (at 0 c))) r.0 r.1)
          | inr h ↦ absurd (omega (arith, positive h 0 pos, (free_layers n plain negated free).0.least (λ c. lay c - 1) (lowered h) 0 pos))
        ]
      where
        positive : ((a : ℕ) → a < n → leb (lay a) (at 0 a) ≡ false) → (c : ℕ) → c < n → 1 ≤ lay c
        positive h c l = omega (arith, leb-false (lay c) (at 0 c) (h c l))

        lowered : ((a : ℕ) → a < n → leb (lay a) (at 0 a) ≡ false) → LayersOn n plain negated (λ c. lay c - 1)
        lowered h =
            let g = (free_layers n plain negated free).0.layers in
            record {
              named = λ a b l m e. omega (arith, g.named a b l m e);
              denied = λ a b l m e. omega (arith, g.denied a b l m e, positive h b m);
            }

    rounds : 0 < n → (k : ℕ) → Done k ⊎ (suc k ≤ settled k)
    rounds pos zero = inr (ground pos)
    rounds pos (suc k) =
        elim (done? k) [
          | inl d ↦ inl (λ c l. omega (arith, d c l, at_grows k c l))
          | inr r ↦ elim (rounds pos k) [ inl d ↦ absurd (omega (arith, d r.0 r.1, r.2)) | inr h ↦ inr (omega (arith, one_more k r.0 r.1 r.2)) ]
        ]

    settled_le : (k : ℕ) → settled k ≤ n
    unfolding settled
    settled_le k = omega (arith, sum_const n 1, sum_le n _ (λ c. 1) (λ c l. bit_le (leb (lay c) (at k c))))

    -- n - 1 rounds are enough
    pub enough : 0 < n → (k : ℕ) → n ≤ suc k → (c : ℕ) → c < n → at k c ≡ lay c
    enough pos k m c l =
        elim (rounds pos k) [
          | inl d ↦ omega (arith, d c l, at_le k c l)
          | inr h ↦
              elim (done? k) [
                | inl d ↦ omega (arith, d c l, at_le k c l)
                | inr r ↦ absurd (omega (arith, one_more k r.0 r.1 r.2, settled_le (suc k)))
              ]
        ]

  -- a table that does at least each round's raises stays at or above the round
  pub above_first : (v : ℕ → ℕ) (c : ℕ) → at 0 c ≤ v c
  unfolding iter bottom
  above_first v c = omega arith

  pub above_next : (v u : ℕ → ℕ) (k : ℕ) → ((c : ℕ) → c < n → at k c ≤ v c)
      → ((a b : ℕ) → a < n → b < n → plain a b ≡ true → v b ≤ u a) → ((a b : ℕ) → a < n → b < n → negated a b ≡ true → v b < u a)
      → (c : ℕ) → c < n → at (suc k) c ≤ u c
  unfolding iter lift
  above_next v u k h p q c l =
      largest_le n (λ b. climb n (negated c b) (plain c b) (iter n (lift n plain negated) k b).low) (u c) (λ b m. one b m (negated c b) (plain c b) refl refl)
    where
      one : (b : ℕ) → b < n → (s t : Bool) → negated c b ≡ s → plain c b ≡ t → climb n s t (at k b) ≤ u c
      one b m true t e f = omega (arith, h b m, q c b l m e)
      one b m false true e f = omega (arith, h b m, p c b l m f)
      one b m false false e f = omega arith
