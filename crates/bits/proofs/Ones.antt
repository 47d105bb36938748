-- The ones of eight words are the size of the set. Assumes nothing.
use mathlib.Core.Path.{◌≡◌, refl, sym, ◌∙◌, ap}
use mathlib.Core.List.{List}
use Prim.Native.Nat.{ℕ, zero, suc, ◌+◌, ◌*◌, ◌/◌, ◌%◌, ◌^◌, ◌<◌}
use native.Mathlib.Nat.{add-zero}
use native.Mathlib.Omega.{arith}
use lib.Count.{ones, ones_step, ones-le}
use lib.Dec.{eqb}
use lib.ListN.{get_or}
use Rattle.std.specs.Int.{bit_at}
use Rattle.std.proofs.lemmas.Nat.Bits.{bit_at_lowest, bit_at-suc, bit_at-lt}
use Rattle.fixpoint.specs.Sum.{sum, bit, count}
use Rattle.fixpoint.proofs.Sum.{sum_eq}
use Rattle.bits.specs.Words.{has}

-- sums in blocks
sum_append : (n m : ℕ) (f : ℕ → ℕ) → sum (n + m) f ≡ sum n f + sum m (λ i. f (n + i))
unfolding sum
sum_append n zero f = rw (add-zero n) (omega arith)
sum_append n (suc m) f =
    let q : n + suc m ≡ suc (n + m) = omega arith in
    omega (arith, ap (λ (k : ℕ). sum k f) q, sum_append n m f)

sum_blocks : (a b : ℕ) (f : ℕ → ℕ) → sum (a * b) f ≡ sum a (λ w. sum b (λ i. f (w * b + i)))
unfolding sum
sum_blocks zero b f = let e : 0 * b ≡ 0 = omega arith in ap (λ (k : ℕ). sum k f) e
sum_blocks (suc a) b f =
    let q : suc a * b ≡ a * b + b = omega arith in
    omega (arith, ap (λ (k : ℕ). sum k f) q, sum_append (a * b) b f, sum_blocks a b f)

sum_front : (n : ℕ) (f : ℕ → ℕ) → sum (suc n) f ≡ f 0 + sum n (λ i. f (suc i))
unfolding sum
sum_front zero f = omega arith
sum_front (suc n) f = omega (arith, sum_front n f)

-- the ones of a word are the sum of its digits
ones_sum : (d x : ℕ) → x < 2 ^ d → ones x ≡ sum d (bit_at x)
unfolding sum
ones_sum zero x h = omega (arith, ones-le 0 x h)
ones_sum (suc d) x h =
    let half : x / 2 < 2 ^ d = omega arith in
    let rest : sum d (λ i. bit_at x (suc i)) ≡ sum d (bit_at (x / 2)) = sum_eq d _ _ (λ i l. bit_at-suc x i) in
    ones_step x ∙ omega (arith, ones_sum d (x / 2) half, sum_front d (bit_at x), bit_at_lowest x)

digit_bit : (d : ℕ) → d < 2 → d ≡ bit (eqb d 1)
digit_bit zero h = refl
digit_bit (suc zero) h = refl
digit_bit (suc (suc d)) h = absurd (omega arith)

pub words_count : (row : List ℕ) → ((w : ℕ) → w < 8 → get_or row w 0 < 2 ^ 64) → sum 8 (λ w. ones (get_or row w 0)) ≡ count 512 (has row)
words_count row h =
    sum_eq 8 _ _ (λ w l. ones_sum 64 (get_or row w 0) (h w l) ∙ sum_eq 64 _ _ (λ i m. word w i m)) ∙ sym (sum_blocks 8 64 (λ i. bit (has row i)))
  where
    word : (w i : ℕ) → i < 64 → bit_at (get_or row w 0) i ≡ bit (has row (w * 64 + i))
    word w i m =
        let q : (w * 64 + i) / 64 ≡ w = omega arith in
        let r : (w * 64 + i) % 64 ≡ i = omega arith in
        rw (q, r) (digit_bit (bit_at (get_or row w 0) i) (bit_at-lt (get_or row w 0) i))
