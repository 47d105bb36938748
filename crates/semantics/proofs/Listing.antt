-- Members of lists that are appended, mapped and flattened. Assumes nothing.
use mathlib.Core.Path.{◌≡◌, refl, sym, ap}
use mathlib.Core.Logic.{◌⊎◌, inl, inr}
use mathlib.Core.List.{List, [], ◌∷◌, ◌++◌, map, flat_map}
use Prim.Native.Nat.{ℕ, zero, suc, ◌<◌}
use native.Mathlib.Omega.{arith}
use native.Mathlib.Decide.{dec_le}
use lib.ListN.{length, get_or}
use Rattle.semantics.specs.SmallPages.{StandsIn, numbers_below}

pub stands_left : {A : Type 0} (x : A) (xs ys : List A) → StandsIn x xs → StandsIn x (xs ++ ys)
stands_left x [] ys h = absurd h
stands_left x (z ∷ xs) ys (inl e) = inl e
stands_left x (z ∷ xs) ys (inr h) = inr (stands_left x xs ys h)

pub stands_right : {A : Type 0} (x : A) (xs ys : List A) → StandsIn x ys → StandsIn x (xs ++ ys)
stands_right x [] ys h = h
stands_right x (z ∷ xs) ys h = inr (stands_right x xs ys h)

pub stands_either : {A : Type 0} (x : A) (xs ys : List A) → StandsIn x (xs ++ ys) → StandsIn x xs ⊎ StandsIn x ys
stands_either x [] ys h = inr h
stands_either x (z ∷ xs) ys (inl e) = inl (inl e)
stands_either x (z ∷ xs) ys (inr h) = elim (stands_either x xs ys h) [ inl k ↦ inl (inr k) | inr k ↦ inr k ]

pub stands_map : {A B : Type 0} (f : A → B) (x : A) (xs : List A) → StandsIn x xs → StandsIn (f x) (map f xs)
stands_map f x [] h = absurd h
stands_map f x (z ∷ xs) (inl e) = inl (ap f e)
stands_map f x (z ∷ xs) (inr h) = inr (stands_map f x xs h)

-- what is among the images is the image of one among them
pub stands_image : {A B : Type 0} (f : A → B) (y : B) (xs : List A) → StandsIn y (map f xs) → (x : A) × StandsIn x xs × (y ≡ f x)
stands_image f y [] h = absurd h
stands_image f y (z ∷ xs) (inl e) = (z, inl refl, e)
stands_image f y (z ∷ xs) (inr h) = let w = stands_image f y xs h in (w.0, inr w.1, w.2)

pub stands_flat : {A B : Type 0} (f : A → List B) (x : A) (y : B) (xs : List A) → StandsIn x xs → StandsIn y (f x) → StandsIn y (flat_map f xs)
unfolding flat_map
stands_flat f x y [] h k = absurd h
stands_flat f x y (z ∷ xs) (inl e) k = stands_left y (f z) (flat_map f xs) (rw e at k)
stands_flat f x y (z ∷ xs) (inr h) k = stands_right y (f z) (flat_map f xs) (stands_flat f x y xs h k)

pub stands_part : {A B : Type 0} (f : A → List B) (y : B) (xs : List A) → StandsIn y (flat_map f xs) → (x : A) × StandsIn x xs × StandsIn y (f x)
unfolding flat_map
stands_part f y [] h = absurd h
stands_part f y (z ∷ xs) h =
    elim (stands_either y (f z) (flat_map f xs) h) [
      | inl k ↦ (z, inl refl, k)
      | inr k ↦ let w = stands_part f y xs k in (w.0, inr w.1, w.2)
    ]

pub stands_below : (n c : ℕ) → c < n → StandsIn c (numbers_below n)
stands_below zero c h = absurd (omega arith)
stands_below (suc n) c h =
    elim (dec_le (suc c) n) [
      | yes k ↦ stands_left c (numbers_below n) (n ∷ []) (stands_below n c k)
      | no k ↦ stands_right c (numbers_below n) (n ∷ []) (inl (omega arith))
    ]

pub below_stands : (n c : ℕ) → StandsIn c (numbers_below n) → c < n
below_stands zero c h = absurd h
below_stands (suc n) c h = elim (stands_either c (numbers_below n) (n ∷ []) h) [ inl k ↦ omega (arith, below_stands n c k) | inr k ↦ last k ]
  where
    last : StandsIn c (n ∷ []) → c < suc n
    last (inl e) = omega (arith, e)
    last (inr h) = absurd h

-- by place
pub stands_at : {A : Type 0} (d : A) (xs : List A) (k : ℕ) → k < length xs → StandsIn (get_or xs k d) xs
stands_at d [] k h = absurd (omega arith)
stands_at d (x ∷ xs) zero h = inl refl
stands_at d (x ∷ xs) (suc k) h = inr (stands_at d xs k (omega arith))

pub place_of : {A : Type 0} (d x : A) (xs : List A) → StandsIn x xs → (k : ℕ) × (k < length xs) × (get_or xs k d ≡ x)
place_of d x [] h = absurd h
place_of d x (z ∷ xs) (inl e) = (0, omega arith, sym e)
place_of d x (z ∷ xs) (inr h) = let w = place_of d x xs h in (suc w.0, omega (arith, w.1), w.2)
