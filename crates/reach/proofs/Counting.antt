-- R and E: the conditions of the closure are counted, and what each of them names. Assumes nothing.
use mathlib.Core.Path.{◌≡◌, refl, sym, ◌∙◌, ap}
use mathlib.Core.Bool.{Bool, true, false, cond, ◌&&◌, and-false}
use mathlib.Core.List.{List}
use Prim.Native.Nat.{ℕ, ◌*◌, ◌≤◌, ◌<◌}
use native.Mathlib.Nat.{mul-le-mul}
use native.Mathlib.Omega.{arith}
use Rattle.fixpoint.specs.Sum.{sum, bit, count}
use Rattle.fixpoint.proofs.Sum.{sum_eq, sum_le, sum_const, sum_zero}
use Rattle.semantics.specs.Page.{Page, names}
use Rattle.semantics.specs.Reading.{closure, count_r, count_e}
use Rattle.semantics.specs.Table.{member}
use Rattle.semantics.proofs.Closure.{reached_closed}
use Rattle.bits.specs.Words.{has}
use Rattle.reach.specs.Sets.{ClosureSet, Counted}
use Rattle.reach.proofs.Inserting.{size_most}

-- of at most 512 conditions, those with p are no more than 512, and name no more than 512 each
pub set_few : (page : Page) (p : ℕ → Bool) → page.conditions ≤ 512
    → (count page.conditions p ≤ 512) × (sum page.conditions (λ c. cond (p c) (count page.conditions (names page c)) 0) ≤ 512 * 512)
set_few page p l = (
  omega (arith, size_most page.conditions p),
  omega (
    arith,
    sum_le page.conditions (λ c. cond (p c) (count page.conditions (names page c)) 0) (λ c. page.conditions) (λ c m. go c (p c)),
    sum_const page.conditions page.conditions,
    mul-le-mul l l,
  ),
)
  where
    go : (c : ℕ) (t : Bool) → cond t (count page.conditions (names page c)) 0 ≤ page.conditions
    go c true = size_most page.conditions (names page c)
    go c false = omega arith

pub counted_few : (page : Page) (words : List ℕ) {r e : ℕ} → Counted page words r e → page.conditions ≤ 512 → (r ≤ 512) × (e ≤ 512 * 512)
counted_few page words h l = let f = set_few page (has words) l in (omega (arith, h.reached_is, f.0), omega (arith, h.edges_is, f.1))

-- of the closure they are R and E
module _ (page : Page) (qs : List ℕ) {words : List ℕ} {r e : ℕ} (most : page.conditions ≤ 512) (s : ClosureSet page qs words) (h : Counted page words r e) where
  abbrev n : ℕ
  n = page.conditions

  is : (c : ℕ) → c < n → has words c ≡ member (closure page qs) c
  is c l = s.same c (omega arith)

  pub counted_r : r ≡ count_r page (closure page qs)
  unfolding count_r
  counted_r = h.reached_is ∙ sum_eq n _ _ (λ c l. ap bit (is c l))

  -- the pairs with the head c
  row : (c : ℕ) → c < n → (t : Bool) → member (closure page qs) c ≡ t → cond t (count n (names page c)) 0 ≡ count n (λ b. t && (member (closure page qs) b && names page c b))
  row c l true p = sum_eq n _ _ (λ b m. ap bit (go b m (names page c b) refl))
    where
      go : (b : ℕ) → b < n → (t : Bool) → names page c b ≡ t → t ≡ (member (closure page qs) b && t)
      go b m true q = sym (rw (reached_closed page qs c b l m p q))
      go b m false q = sym (and-false (member (closure page qs) b))
  row c l false p = sym (sum_zero n)

  pub counted_e : e ≡ count_e page (closure page qs)
  unfolding count_e
  counted_e = h.edges_is ∙ sum_eq n _ _ (λ c l. ap (λ (t : Bool). cond t (count n (names page c)) 0) (is c l) ∙ row c l (member (closure page qs) c) refl)
