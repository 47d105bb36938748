-- The laws of finite sums. Assumes nothing.
use mathlib.Core.Path.{◌≡◌, refl, sym, ap, subst}
use mathlib.Core.Logic.{◌≢◌}
use Prim.Native.Nat.{ℕ, zero, suc, ◌+◌, ◌*◌, ◌≤◌, ◌<◌}
use native.Mathlib.Decide.{ℕ_discrete}
use native.Mathlib.Omega.{arith}
use Rattle.fixpoint.specs.Sum.{sum}

pub sum_le : (n : ℕ) (f g : ℕ → ℕ) → ((c : ℕ) → c < n → f c ≤ g c) → sum n f ≤ sum n g
unfolding sum
sum_le zero f g h = omega arith
sum_le (suc n) f g h = omega (arith, sum_le n f g (λ c l. h c (omega arith)), h n (omega arith))

pub sum_eq : (n : ℕ) (f g : ℕ → ℕ) → ((c : ℕ) → c < n → f c ≡ g c) → sum n f ≡ sum n g
unfolding sum
sum_eq zero f g h = refl
sum_eq (suc n) f g h = omega (arith, sum_eq n f g (λ c l. h c (omega arith)), h n (omega arith))

-- one entry falls by d, and certainly-false grows: the sum falls by d
pub sum_drop : (n : ℕ) (f g : ℕ → ℕ) (d A : ℕ) → A < n → ((c : ℕ) → c < n → c ≢ A → f c ≤ g c) → f A + d ≤ g A → sum n f + d ≤ sum n g
unfolding sum
sum_drop zero f g d A l h e = omega arith
sum_drop (suc n) f g d A l h e =
    elim (ℕ_discrete A n) [
      | yes q ↦
          let low : sum n f ≤ sum n g = sum_le n f g (λ c m. h c (omega arith) (omega arith)) in
          let last : f n + d ≤ g n = subst (λ (k : ℕ). f k + d ≤ g k) q e in
          omega arith
      | no q ↦
          let low : sum n f + d ≤ sum n g = sum_drop n f g d A (omega arith) (λ c m. h c (omega arith)) e in
          let last : f n ≤ g n = h n (omega arith) (omega arith) in
          omega arith
    ]

pub sum_add : (n : ℕ) (f g : ℕ → ℕ) → sum n (λ c. f c + g c) ≡ sum n f + sum n g
unfolding sum
sum_add zero f g = refl
sum_add (suc n) f g = omega (arith, sum_add n f g)

pub sum_const : (n k : ℕ) → sum n (λ c. k) ≡ n * k
unfolding sum
sum_const zero k = omega arith
sum_const (suc n) k = omega (arith, sum_const n k)

pub sum_scale : (n k : ℕ) (f : ℕ → ℕ) → sum n (λ c. f c * k) ≡ sum n f * k
unfolding sum
sum_scale zero k f = omega arith
sum_scale (suc n) k f = omega (arith, sum_scale n k f)

pub sum_zero : (n : ℕ) → sum n (λ c. 0) ≡ 0
unfolding sum
sum_zero zero = refl
sum_zero (suc n) = omega (arith, sum_zero n)

pub sum_swap : (n m : ℕ) (f : ℕ → ℕ → ℕ) → sum n (λ a. sum m (λ b. f a b)) ≡ sum m (λ b. sum n (λ a. f a b))
unfolding sum
sum_swap zero m f = sym (sum_zero m)
sum_swap (suc n) m f = omega (arith, sum_swap n m f, sum_add m (λ b. sum n (λ a. f a b)) (λ b. f n b))

-- f is nowhere above g, and its sum not below: they are equal
pub sum_tight : (n : ℕ) (f g : ℕ → ℕ) → ((c : ℕ) → c < n → f c ≤ g c) → sum n g ≤ sum n f → (c : ℕ) → c < n → f c ≡ g c
unfolding sum
sum_tight zero f g h s c l = omega arith
sum_tight (suc n) f g h s c l =
    let low : sum n f ≤ sum n g = sum_le n f g (λ a m. h a (omega arith)) in
    let last : f n ≤ g n = h n (omega arith) in
    elim (ℕ_discrete c n) [
      | yes q ↦ subst (λ (k : ℕ). f k ≡ g k) (sym q) (omega arith)
      | no q ↦ sum_tight n f g (λ a m. h a (omega arith)) (omega arith) c (omega arith)
    ]

-- an entry of a sum is no more than the sum
pub sum_entry : (n : ℕ) (f : ℕ → ℕ) (c : ℕ) → c < n → f c ≤ sum n f
unfolding sum
sum_entry zero f c l = omega arith
sum_entry (suc n) f c l =
    elim (ℕ_discrete c n) [
      | yes q ↦ let e : f c ≡ f n = ap f q in omega arith
      | no q ↦ omega (arith, sum_entry n f c (omega arith))
    ]
