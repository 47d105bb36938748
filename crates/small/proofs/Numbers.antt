-- The page with a number, by arithmetic, is the one at that place of the list. Assumes nothing.
use mathlib.Core.Path.{◌≡◌, refl, sym, ◌∙◌, ap}
use mathlib.Core.List.{List, [], ◌∷◌, ◌++◌, map, flat_map}
use Prim.Native.Nat.{ℕ, zero, suc, ◌<◌}
use native.Mathlib.Omega.{arith}
use native.Mathlib.Decide.{dec_le}
use lib.ListN.{length, get_or, length-append, get_or-map}
use Rattle.semantics.specs.Page.{Page}
use Rattle.semantics.specs.SmallPages.{numbers_below, small_lines, small_pages_of, small_pages, small_page}
use Rattle.small.specs.Numbers.{page_numbered}

below_length : (n : ℕ) → length (numbers_below n) ≡ n
below_length zero = refl
below_length (suc n) = omega (arith, length-append (numbers_below n) (n ∷ []), below_length n)

-- in the first of two lists, or right behind it
at_first : (xs ys : List ℕ) (k : ℕ) → k < length xs → get_or (xs ++ ys) k 0 ≡ get_or xs k 0
at_first [] ys k h = absurd (omega arith)
at_first (x ∷ xs) ys zero h = refl
at_first (x ∷ xs) ys (suc k) h = at_first xs ys k (omega arith)

at_behind : (xs : List ℕ) (y k : ℕ) → k ≡ length xs → get_or (xs ++ (y ∷ [])) k 0 ≡ y
at_behind [] y zero h = refl
at_behind [] y (suc k) h = absurd (omega (arith, h))
at_behind (x ∷ xs) y zero h = absurd (omega (arith, h))
at_behind (x ∷ xs) y (suc k) h = at_behind xs y k (omega (arith, h))

below_at : (n k : ℕ) → k < n → get_or (numbers_below n) k 0 ≡ k
below_at zero k h = absurd (omega arith)
below_at (suc n) k h =
    elim (dec_le (suc k) n) [
      | yes l ↦ at_first (numbers_below n) (n ∷ []) k (omega (arith, below_length n)) ∙ below_at n k l
      | no l ↦ let e : k ≡ n = omega arith in at_behind (numbers_below n) n k (omega (arith, below_length n)) ∙ sym e
    ]

listed : map page_numbered (numbers_below 242) ≡ small_pages
unfolding small_pages small_pages_of small_lines flat_map
listed = refl

pub page_at : (k : ℕ) → k < 242 → page_numbered k ≡ small_page k
page_at k h = sym (ap (λ (ps : List Page). get_or ps k (page_numbered 0)) (sym listed) ∙ get_or-map page_numbered (numbers_below 242) k 0 ∙ ap page_numbered (below_at 242 k h))
