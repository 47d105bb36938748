-- A test of all numbers below n, as the library says it over a range. Assumes nothing.
use mathlib.Core.Path.{◌≡◌, refl, ◌∙◌, ap}
use mathlib.Core.Bool.{Bool, true, false, ◌&&◌, false≢true}
use Prim.Native.Nat.{ℕ, zero, suc, ◌+◌, ◌≤◌, ◌<◌}
use native.Mathlib.Decide.{ℕ_discrete}
use native.Mathlib.Omega.{arith}
use Rattle.std.specs.List.{list_all, range_with_len}
use Rattle.semantics.specs.Table.{all_below}
use Rattle.semantics.proofs.Table.{iff_eq, all_true, all_at}

and_both : (b t : Bool) → b ≡ true → t ≡ true → (b && t) ≡ true
and_both true t e f = f
and_both false t e f = absurd (false≢true e)

and_left : (b t : Bool) → (b && t) ≡ true → b ≡ true
and_left true t e = refl
and_left false t e = absurd (false≢true e)

and_right : (b t : Bool) → (b && t) ≡ true → t ≡ true
and_right true t e = e
and_right false t e = absurd (false≢true e)

-- by the numbers from a on
module _ (f : ℕ → Bool) where
  all_from : (n a : ℕ) → list_all f (range_with_len a n) ≡ true → (i : ℕ) → a ≤ i → i < a + n → f i ≡ true
  all_from zero a e i l m = absurd (omega arith)
  all_from (suc n) a e i l m =
      elim (ℕ_discrete i a) [
        | yes q ↦ ap f q ∙ and_left (f a) (list_all f (range_with_len (a + 1) n)) e
        | no q ↦ all_from n (a + 1) (and_right (f a) (list_all f (range_with_len (a + 1) n)) e) i (omega arith) (omega arith)
      ]

  all_to : (n a : ℕ) → ((i : ℕ) → a ≤ i → i < a + n → f i ≡ true) → list_all f (range_with_len a n) ≡ true
  all_to zero a h = refl
  all_to (suc n) a h = and_both (f a) (list_all f (range_with_len (a + 1) n)) (h a (omega arith) (omega arith)) (all_to n (a + 1) (λ i l m. h i (omega arith) (omega arith)))

  pub all_in_range : (n : ℕ) → list_all f (range_with_len 0 n) ≡ all_below n f
  all_in_range n =
      iff_eq _ _ (λ e. all_true n f (λ i l. all_from n 0 e i (omega arith) (omega arith)))
      (λ e. all_to n 0 (λ i l m. all_at n f e i (omega arith)))
