-- A condition is sought if it is reached and unknown by default. Assumes nothing.
use mathlib.Core.Path.{◌≡◌, refl, sym, ◌∙◌, ap}
use mathlib.Core.Logic.{⊎_elim}
use mathlib.Core.Bool.{Bool, true, false, ◌&&◌, true≢false, false≢true}
use mathlib.Core.List.{List}
use Prim.Native.Nat.{ℕ, zero, suc, ◌+◌, ◌≤◌, ◌<◌}
use native.Mathlib.Decide.{ℕ_discrete}
use native.Mathlib.Omega.{arith}
use Rattle.std.specs.List.{list_any, range_with_len}
use Rattle.semantics.specs.Area.{page_of, conditions_of}
use Rattle.semantics.specs.Body.{unknown_by_default}
use Rattle.semantics.specs.Table.{member, any_below}
use Rattle.semantics.proofs.Layers.{or_left, or_right}
use Rattle.semantics.proofs.Table.{iff_eq, or_cases, any_true, any_found}
use Rattle.unknowns.specs.NextHighs.{sought}

module _ (a : List ℕ) (m : List Bool) (c : ℕ) where
  pub sought_here : member m c ≡ true → unknown_by_default (page_of a) c ≡ true → sought a m c ≡ true
  sought_here r f = rw (r, f)

  pub sought_free : sought a m c ≡ true → unknown_by_default (page_of a) c ≡ true
  sought_free = go (member m c) (unknown_by_default (page_of a) c)
    where
      go : (b f : Bool) → (b && f) ≡ true → f ≡ true
      go true f e = e
      go false f e = absurd (false≢true e)

-- some condition below n has f, by the numbers from a on
any_from : (f : ℕ → Bool) (n a : ℕ) → list_any f (range_with_len a n) ≡ true → (i : ℕ) × (i < a + n) × (f i ≡ true)
any_from f zero a e = absurd (false≢true e)
any_from f (suc n) a e =
    ⊎_elim (λ h. (a, omega arith, h)) (λ h. let g = any_from f n (a + 1) h in (g.0, omega (arith, g.1), g.2))
    (or_cases (f a) (list_any f (range_with_len (a + 1) n)) e)

any_to : (f : ℕ → Bool) (n a i : ℕ) → a ≤ i → i < a + n → f i ≡ true → list_any f (range_with_len a n) ≡ true
any_to f zero a i l m e = absurd (omega arith)
any_to f (suc n) a i l m e =
    elim (ℕ_discrete i a) [
      | yes q ↦ or_left (f a) (list_any f (range_with_len (a + 1) n)) (ap f (sym q) ∙ e)
      | no q ↦ or_right (f a) (list_any f (range_with_len (a + 1) n)) (any_to f n (a + 1) i (omega arith) (omega arith) e)
    ]

pub any_in_range : (f : ℕ → Bool) (n : ℕ) → list_any f (range_with_len 0 n) ≡ any_below n f
any_in_range f n =
    iff_eq _ _ (λ e. let g = any_from f n 0 e in any_true n f g.0 (omega (arith, g.1)) g.2)
    (λ e. let g = any_found n f e in any_to f n 0 g.0 (omega arith) (omega (arith, g.1)) g.2)

module _ (a : List ℕ) (m : List Bool) where
  -- with none sought, no reached condition is unknown by default
  pub none_free : any_below (conditions_of a) (sought a m) ≡ false → (c : ℕ) → c < conditions_of a → sought a m c ≡ false
  none_free e c l = go (sought a m c) refl
    where
      go : (b : Bool) → sought a m c ≡ b → b ≡ false
      go true q = absurd (true≢false (sym (any_true (conditions_of a) (sought a m) c l q) ∙ e))
      go false q = refl
