-- Sets of conditions as words or as marks: conditions put into a set, one at a time or in a loop, and how many are new. Assumes nothing.
use mathlib.Core.Path.{◌≡◌, refl, sym, ◌∙◌, ap, subst}
use mathlib.Core.Logic.{◌≢◌}
use mathlib.Core.Bool.{Bool, true, false, cond, not, ◌||◌, or_assoc, or-false}
use mathlib.Core.List.{List}
use Prim.Native.Nat.{ℕ, zero, suc, ◌+◌, ◌≤◌, ◌<◌}
use native.Mathlib.Decide.{ℕ_discrete}
use native.Mathlib.Omega.{arith}
use lib.Dec.{eqb}
use lib.ListN.{length}
use borrow.Author.Tests.{eq-eqb, ne_eqb}
use Rattle.fixpoint.specs.Sum.{sum, bit, count}
use Rattle.fixpoint.proofs.Sum.{sum_eq, sum_le, sum_const}
use Rattle.reach.specs.Sets.{Takes, Joins, Inserts}

-- one entry grows by d, and the others stay
pub sum_grown : (n : ℕ) (f g : ℕ → ℕ) (x d : ℕ) → x < n → g x ≡ f x + d → ((c : ℕ) → c < n → c ≢ x → g c ≡ f c) → sum n g ≡ sum n f + d
unfolding sum
sum_grown zero f g x d l e h = absurd (omega arith)
sum_grown (suc n) f g x d l e h =
    elim (ℕ_discrete x n) [
      | yes q ↦
          let low : sum n g ≡ sum n f = sum_eq n g f (λ c k. h c (omega arith) (omega arith)) in
          let last : g n ≡ f n + d = subst (λ (k : ℕ). g k ≡ f k + d) q e in
          omega arith
      | no q ↦ omega (arith, sum_grown n f g x d (omega arith) e (λ c k. h c (omega arith)), h n (omega arith) (omega arith))
    ]

bit_one : (a : Bool) → bit a ≤ 1
bit_one true = omega arith
bit_one false = omega arith

pub size_most : (n : ℕ) (s : ℕ → Bool) → count n s ≤ n
size_most n s = omega (arith, sum_const n 1, sum_le n (λ c. bit (s c)) (λ c. 1) (λ c l. bit_one (s c)))

-- one condition
turned : (c k : ℕ) → eqb k c ≡ eqb c k
turned c k =
    elim (ℕ_discrete k c) [
      | yes e ↦ eq-eqb k c e ∙ sym (eq-eqb c k (sym e))
      | no e ↦ ne_eqb k c e ∙ sym (ne_eqb c k (λ q. e (sym q)))
    ]

module _ (before after : ℕ → Bool) (c : ℕ) (h : Takes c before after) where
  pub joins_one : Joins (eqb c) before after
  joins_one = record { is = λ k l. h k l ∙ ap (λ (t : Bool). before k || t) (turned c k) }

  stays : (k : ℕ) → k < 512 → k ≢ c → after k ≡ before k
  stays k l n = h k l ∙ rw (ne_eqb k c n, or-false)

  enters : c < 512 → after c ≡ true
  enters l = h c l ∙ go (before c)
    where
      go : (t : Bool) → (t || eqb c c) ≡ true
      go true = refl
      go false = eq-eqb c c refl

  pub inserts_new : {new : ℕ} → c < 512 → new ≡ cond (before c) 0 1 → Inserts (eqb c) before after new
  inserts_new {new} l e =
      record {
        joins = joins_one;
        counted = sum_grown 512 (λ k. bit (before k)) (λ k. bit (after k)) c new l (go (before c) e) (λ k m n. ap bit (stays k m n));
      }
    where
      go : (t : Bool) → new ≡ cond t 0 1 → bit (after c) ≡ bit t + new
      go true q = rw (enters l, q)
      go false q = rw (enters l, q)

  -- told by whether it is new
  pub inserts_told : {new : Bool} → c < 512 → new ≡ not (before c) → Inserts (eqb c) before after (bit new)
  inserts_told {new} l e = inserts_new l (ap bit e ∙ go (before c))
    where
      go : (t : Bool) → bit (not t) ≡ cond t 0 1
      go true = refl
      go false = refl

-- the same of lists that hold sets
pub inserts_one : {A : Type 0} (holds : List A → ℕ → Bool) {n : ℕ} (words words' : List A) (c : ℕ) → (length words' ≡ n) × ((k : ℕ) → k < 512 → holds words' k ≡ (holds words k || eqb k c)) → {new : ℕ}
    → c < 512 → new ≡ cond (holds words c) 0 1 → Inserts (eqb c) (holds words) (holds words') new
inserts_one holds words words' c h l e = inserts_new (holds words) (holds words') c h.1 l e

-- a loop that puts the conditions of f into a set, in steps: `rest` are those still to come
pub record Joining (f rest before now : ℕ → Bool) : Type 0 where
  pub is : (c : ℕ) → c < 512 → (before c || f c) ≡ (now c || rest c)

-- the same with a count of the new ones
pub record Inserting (f rest before now : ℕ → Bool) (new : ℕ) : Type 0 where
  pub joining : Joining f rest before now
  pub counted : count 512 now ≡ count 512 before + new

pub inserts_none : (f s : ℕ → Bool) → ((c : ℕ) → f c ≡ false) → Inserts f s s 0
inserts_none f s h = record { joins = record { is = λ c l. sym (rw (h c, or-false)) }; counted = omega arith }

pub inserts_as : {f g s t : ℕ → Bool} {k : ℕ} → Inserts f s t k → ((c : ℕ) → f c ≡ g c) → Inserts g s t k
inserts_as {s = s} a h = record { joins = record { is = λ c l. a.joins.is c l ∙ ap (λ (t : Bool). s c || t) (h c) }; counted = a.counted }

pub inserts_few : {f s t : ℕ → Bool} {k : ℕ} → Inserts f s t k → k ≤ 512
inserts_few {t = t} a = omega (arith, a.counted, size_most 512 t)

-- the loop puts conditions in
pub joining_first : {f rest s : ℕ → Bool} → ((c : ℕ) → f c ≡ rest c) → Joining f rest s s
joining_first {s = s} h = record { is = λ c l. ap (λ (t : Bool). s c || t) (h c) }

pub joining_next : {f rest rest' g s₀ s t : ℕ → Bool} → Joining f rest s₀ s → Joins g s t → ((c : ℕ) → rest c ≡ (g c || rest' c)) → Joining f rest' s₀ t
joining_next {rest' = rest'} {g = g} {s = s} j a h =
    record {
      is = λ c l. j.is c l ∙ ap (λ (t : Bool). s c || t) (h c) ∙ sym (or_assoc (s c) (g c) (rest' c)) ∙ ap (λ (t : Bool). t || rest' c) (sym (a.is c l));
    }

pub joining_last : {f rest s₀ s : ℕ → Bool} → Joining f rest s₀ s → ((c : ℕ) → rest c ≡ false) → Joins f s₀ s
joining_last {s = s} j h = record { is = λ c l. sym (j.is c l ∙ ap (λ (t : Bool). s c || t) (h c) ∙ or-false (s c)) }

-- nothing is put in
pub joining_skip : {f rest rest' s₀ s : ℕ → Bool} → Joining f rest s₀ s → ((c : ℕ) → rest c ≡ rest' c) → Joining f rest' s₀ s
joining_skip {s = s} j h = record { is = λ c l. j.is c l ∙ ap (λ (t : Bool). s c || t) (h c) }

-- and counts the new ones
pub inserting_first : {f rest s : ℕ → Bool} → ((c : ℕ) → f c ≡ rest c) → Inserting f rest s s 0
inserting_first h = record { joining = joining_first h; counted = omega arith }

pub inserting_next : {f rest rest' g s₀ s t : ℕ → Bool} {k l : ℕ} → Inserting f rest s₀ s k → Inserts g s t l → ((c : ℕ) → rest c ≡ (g c || rest' c)) → Inserting f rest' s₀ t (k + l)
inserting_next j a h = record { joining = joining_next j.joining a.joins h; counted = omega (arith, j.counted, a.counted) }

pub inserting_skip : {f rest rest' s₀ s : ℕ → Bool} {k : ℕ} → Inserting f rest s₀ s k → ((c : ℕ) → rest c ≡ rest' c) → Inserting f rest' s₀ s k
inserting_skip j h = record { joining = joining_skip j.joining h; counted = j.counted }

pub inserting_last : {f rest s₀ s : ℕ → Bool} {k : ℕ} → Inserting f rest s₀ s k → ((c : ℕ) → rest c ≡ false) → Inserts f s₀ s k
inserting_last j h = record { joins = joining_last j.joining h; counted = j.counted }

-- so far at most 512 are new
pub inserting_few : {f rest s₀ s : ℕ → Bool} {k : ℕ} → Inserting f rest s₀ s k → k ≤ 512
inserting_few {s = s} j = omega (arith, j.counted, size_most 512 s)
