-- The largest layer that a rule's literals ask for, as the largest of what each asks for. Assumes nothing.
use mathlib.Core.Path.{◌≡◌, refl}
use mathlib.Core.Logic.{◌⊎◌, inl, inr}
use mathlib.Core.Bool.{true}
use mathlib.Core.List.{List, [], ◌∷◌}
use Prim.Native.Nat.{ℕ, zero, suc, ◌+◌, ◌/◌, ◌%◌, ◌≤◌, ◌<◌, max}
use native.Mathlib.Decide.{dec_le}
use native.Mathlib.Omega.{arith}
use lib.ListN.{length, get_or, take, drop}
use Rattle.std.specs.List.{fold}
use Rattle.page.specs.Places.{RuleIn}
use Rattle.page.specs.Solvable.{solvable}
use Rattle.layers.specs.Raising.{Asked}
use Rattle.layers.proofs.Literals.{codes_length, code_at}

-- r is m or what some item tells, and no less than m and what each tells
record Largest (f : ℕ → ℕ) (m : ℕ) (xs : List ℕ) (r : ℕ) : Type 0 where
  least : m ≤ r
  most : (i : ℕ) → i < length xs → f (get_or xs i 0) ≤ r
  some : (r ≡ m) ⊎ ((i : ℕ) × (i < length xs) × (r ≡ f (get_or xs i 0)))

largest : (f : ℕ → ℕ) (m : ℕ) (xs : List ℕ) → Largest f m xs (fold (λ a x. max a (f x)) m xs)
largest f m [] = record { least = omega arith; most = λ i l. absurd (omega arith); some = inl refl }
largest f m (x ∷ xs) =
    let h = largest f (max m (f x)) xs in
    record { least = omega (arith, h.least); most = most h; some = some h.some }
  where
    r : ℕ
    r = fold (λ a y. max a (f y)) (max m (f x)) xs

    most : Largest f (max m (f x)) xs r → (i : ℕ) → i < length (x ∷ xs) → f (get_or (x ∷ xs) i 0) ≤ r
    most h zero l = omega (arith, h.least)
    most h (suc i) l = h.most i (omega arith)

    some : (r ≡ max m (f x)) ⊎ ((i : ℕ) × (i < length xs) × (r ≡ f (get_or xs i 0))) → (r ≡ m) ⊎ ((i : ℕ) × (i < length (x ∷ xs)) × (r ≡ f (get_or (x ∷ xs) i 0)))
    some (inl e) = elim (dec_le (f x) m) [ yes l ↦ inl (omega arith) | no l ↦ inr (0, omega arith, omega arith) ]
    some (inr h) = inr (suc h.0, omega (arith, h.1), h.2)

module _ (a : List ℕ) (ok : solvable a ≡ true) {at : ℕ} (at_rule : RuleIn a at) (layers : List ℕ) where
  pub asked_largest : {codes : List ℕ} → codes ≡ take (get_or a (at + 3) 0) (drop (at + 4) a) → {r : ℕ}
      → r ≡ fold (λ m k. max m (get_or layers (k / 2) 0 + k % 2)) 0 codes → Asked a at layers r
  asked_largest {codes} e {r} q =
      let h : Largest (λ k. get_or layers (k / 2) 0 + k % 2) 0 codes r = rw q (largest (λ k. get_or layers (k / 2) 0 + k % 2) 0 codes) in
      let n = codes_length a ok at_rule e in
      record {
        most = λ i l. rw (code_at a ok at_rule e i (omega arith)) at (h.most i (omega arith));
        some = elim h.some [
          | inl z ↦ inl z
          | inr w ↦ inr (w.0, omega (arith, w.1), rw (code_at a ok at_rule e w.0 w.1) at w.2)
        ];
      }
