-- The set of the conditions that wait, a word at a time: the digits of a word, and the words filled so far. Assumes nothing.
use mathlib.Core.Path.{◌≡◌, refl, sym, ◌∙◌, ap, subst}
use mathlib.Core.Logic.{⊎_elim}
use mathlib.Core.Bool.{◌&&◌}
use mathlib.Core.List.{List}
use Prim.Native.Nat.{ℕ, zero, suc, ◌+◌, ◌*◌, ◌-◌, ◌/◌, ◌%◌, ◌^◌, ◌≤◌, ◌<◌, min}
use native.Mathlib.Decide.{ℕ_discrete}
use native.Mathlib.Nat.{pow-suc}
use native.Mathlib.Omega.{arith}
use lib.Dec.{eqb, ltb}
use lib.ListN.{length, get_or, set, length-set}
use lib.Seq.{get_or-set_same, get_or-set_other}
use borrow.Author.Tests.{lt-ltb, le-ltb}
use Rattle.std.specs.Int.{bit_at}
use Rattle.std.proofs.lemmas.Nat.Bits.{bit_at_lowest, bit_at-suc, bit_at_above}
use Rattle.semantics.specs.RunArea.{mark_at}
use Rattle.bits.specs.Words.{has}
use Rattle.worklist.specs.Waiting.{Digits}
use Rattle.worklist.proofs.Matching.{lt_or_le}

-- half a mark is the digit
half_mark : (m : ℕ) → m ≤ 2 → eqb (m / 2) 1 ≡ eqb m 2
half_mark zero l = refl
half_mark (suc zero) l = refl
half_mark (suc (suc zero)) l = refl
half_mark (suc (suc (suc m))) l = absurd (omega arith)

module _ {run : List ℕ} {c to x : ℕ} (d : Digits run (c + 1) to x) (l : c < to) where
  pub digits_more : mark_at run c ≤ 2 → Digits run c to (2 * x + mark_at run c / 2)
  digits_more m = record { waits = digit; few = more }
    where
      more : 2 * x + mark_at run c / 2 < 2 ^ (to - c)
      more = let e : to - c ≡ suc (to - (c + 1)) = omega arith in rw e (omega (arith, d.few, pow-suc 2 (to - (c + 1))))

      half : (2 * x + mark_at run c / 2) / 2 ≡ x
      half = omega arith

      digit : (j : ℕ) → c + j < to → eqb (bit_at (2 * x + mark_at run c / 2) j) 1 ≡ eqb (mark_at run (c + j)) 2
      digit zero k =
          let e : (2 * x + mark_at run c / 2) % 2 ≡ mark_at run c / 2 = omega arith in
          let z : c + 0 ≡ c = omega arith in
          ap (λ (i : ℕ). eqb i 1) (bit_at_lowest (2 * x + mark_at run c / 2) ∙ e) ∙ half_mark (mark_at run c) m ∙ ap (λ (i : ℕ). eqb (mark_at run i) 2) (sym z)
      digit (suc j) k =
          let z : c + 1 + j ≡ c + suc j = omega arith in
          ap (λ (i : ℕ). eqb i 1) (bit_at-suc (2 * x + mark_at run c / 2) j ∙ ap (λ (i : ℕ). bit_at i j) half) ∙ d.waits j (omega arith)
          ∙ ap (λ (i : ℕ). eqb (mark_at run i) 2) z

-- the same, counted down
module _ {run : List ℕ} {c to x : ℕ} (d : Digits run c to x) (some : 0 < c) (l : c ≤ to) where
  before : Digits run (c - 1 + 1) to x
  before = let e : c ≡ c - 1 + 1 = omega arith in subst (λ (i : ℕ). Digits run i to x) e d

  pub digits_down : mark_at run (c - 1) ≤ 2 → Digits run (c - 1) to (2 * x + mark_at run (c - 1) / 2)
  digits_down m = digits_more before (omega arith) m

-- the words before the word w hold who waits of the conditions below n
pub record Filled (n w : ℕ) (run words : List ℕ) : Type 0 where
  pub size : length words ≡ 8
  pub bits : (k : ℕ) → k < 64 * w → has words k ≡ (ltb k n && eqb (mark_at run k) 2)

module _ {n w : ℕ} {run words : List ℕ} (f : Filled n w run words) where
  -- the next word is that of the 64 conditions from 64 * w on, as far as they are below n
  pub filled_next : w < 8 → {from to x : ℕ} → from ≡ min n (64 * w) → to ≡ min n (from + 64) → Digits run from to x → Filled n (w + 1) run (set words w x)
  filled_next l {from} {to} {x} p q d =
      record {
        size = length-set words w x ∙ f.size;
        bits = λ k m. elim (ℕ_discrete (k / 64) w) [
          | yes e ↦ ap (λ (j : ℕ). eqb (bit_at (get_or (set words w x) j 0) (k % 64)) 1) e
              ∙ ap (λ (z : ℕ). eqb (bit_at z (k % 64)) 1) (get_or-set_same words w x 0 (omega (arith, f.size))) ∙ here k e
          | no e ↦ ap (λ (z : ℕ). eqb (bit_at z (k % 64)) 1) (get_or-set_other words w (k / 64) x 0 e) ∙ f.bits k (omega (arith, e))
        ];
      }
    where
      here : (k : ℕ) → k / 64 ≡ w → eqb (bit_at x (k % 64)) 1 ≡ (ltb k n && eqb (mark_at run k) 2)
      here k e =
          ⊎_elim (λ b. let z : from + k % 64 ≡ k = omega arith in d.waits (k % 64) (omega arith) ∙ rw (z, lt-ltb k n (omega arith)))
          (λ b. ap (λ (i : ℕ). eqb i 1) (bit_at_above x (to - from) (k % 64) d.few (omega arith)) ∙ rw (le-ltb k n (omega arith)))
          (lt_or_le k to)
