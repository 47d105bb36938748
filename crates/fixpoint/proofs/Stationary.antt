-- Rounds of an operator on a set of conditions: once two are equal all later ones are, and a falling weight bounds how many differ.
-- Assumes nothing.
use mathlib.Core.Path.{◌≡◌, refl, sym, ◌∙◌, ap, subst}
use mathlib.Core.Logic.{◌⊎◌, inl, inr}
use mathlib.Core.Bool.{Bool, true, false, true≢false}
use Prim.Native.Nat.{ℕ, zero, suc, ◌+◌, ◌*◌, ◌≤◌, ◌<◌}
use native.Mathlib.Decide.{dec_le}
use native.Mathlib.Omega.{arith}
use Rattle.fixpoint.specs.Interval.{Interval, Assign}
use Rattle.fixpoint.specs.KnowledgeOrder.{Alike, bottom}
use Rattle.fixpoint.specs.LeastFixpoint.{Operator, iter, lfp}
use Rattle.fixpoint.specs.Sum.{sum, bit, count}
use Rattle.fixpoint.proofs.Sum.{sum_le, sum_eq, sum_tight, sum_scale}
use Rattle.fixpoint.proofs.LeastFixpoint.{ext, lfp_fixed}
use Rattle.fixpoint.proofs.Descent.{paid, settles}

-- the share of what is reached
unfoldable pub portion : Bool → ℕ → ℕ
portion true w = w
portion false w = 0

portion_le : (t : Bool) (v w : ℕ) → (t ≡ true → v ≤ w) → portion t v ≤ portion t w
unfolding portion
portion_le true v w h = h refl
portion_le false v w h = omega arith

portion_eq : (t : Bool) (v w : ℕ) → t ≡ true → portion t v ≡ portion t w → v ≡ w
unfolding portion
portion_eq true v w r e = e
portion_eq false v w r e = absurd (true≢false (sym r))

-- as many portions of top as there are members
pub portion_top : (n top : ℕ) (reached : ℕ → Bool) → sum n (λ c. portion (reached c) top) ≡ count n reached * top
portion_top n top reached = sum_eq n _ _ (λ c l. one (reached c)) ∙ sum_scale n top (λ c. bit (reached c))
  where
    one : (t : Bool) → portion t top ≡ bit t * top
    one true = unfold portion in omega arith
    one false = unfold portion in omega arith

-- after the least fixed point nothing changes
lfp_later : {n top : ℕ} {U : Assign → ℕ → Interval} → Operator n top U → (j c : ℕ) → c < n
    → lfp n top U c ≡ iter top U (j + n * (top + top)) c
unfolding lfp
lfp_later {n} {top} {U} O zero c l = ap (λ (m : ℕ). iter top U m c) (omega arith)
lfp_later {n} {top} {U} O (suc j) c l =
    lfp_fixed O c l ∙ ext O (lfp n top U) (iter top U (j + n * (top + top))) (lfp_later O j) c l ∙ next (j + n * (top + top)) c ∙ ap (λ (m : ℕ). iter top U m c) (omega arith)
  where
    next : (k c : ℕ) → U (iter top U k) c ≡ iter top U (suc k) c
    next k c = unfold iter in refl

-- once alike, always alike
module _ {n : ℕ} {reached : ℕ → Bool} (top : ℕ) (U : Assign → ℕ → Interval) (alike : (I J : Assign) → Alike n reached I J → Alike n reached (U I) (U J)) where
  abbrev Still : ℕ → Type 0
  Still k = Alike n reached (iter top U k) (iter top U (suc k))

  pub stays : (k : ℕ) → Still k → Still (suc k)
  unfolding iter
  stays k h = alike (iter top U k) (iter top U (suc k)) h

  still_on : (k : ℕ) → Still k → (j : ℕ) → Still (j + k)
  still_on k h zero = subst Still (omega arith) h
  still_on k h (suc j) = subst Still (omega arith) (stays (j + k) (still_on k h j))

  pub stays_on : (k : ℕ) → Still k → (j : ℕ) → Alike n reached (iter top U k) (iter top U (j + k))
  stays_on k h zero c l r = ap (λ (m : ℕ). iter top U m c) (omega arith)
  stays_on k h (suc j) c l r = stays_on k h j c l r ∙ still_on k h j c l r ∙ ap (λ (m : ℕ). iter top U m c) (omega arith)

  -- the first round that the next one equals is the least fixed point
  pub still_lfp : Operator n top U → (k : ℕ) → Still k → Alike n reached (iter top U k) (lfp n top U)
  still_lfp O k h c l r = stays_on k h (n * (top + top)) c l r ∙ ap (λ (m : ℕ). iter top U m c) (omega arith) ∙ sym (lfp_later O k c l)

  -- a weight that falls wherever something changes bounds the rounds
  module _ (weight : ℕ → Interval → ℕ) (cap : ℕ → ℕ)
      (drops : (k c : ℕ) → c < n → reached c ≡ true → weight c (iter top U (suc k) c) ≤ weight c (iter top U k c))
      (tight : (k c : ℕ) → c < n → reached c ≡ true → weight c (iter top U (suc k) c) ≡ weight c (iter top U k c) → iter top U k c ≡ iter top U (suc k) c)
      (heavy : (c : ℕ) → weight c (record { low = 0; high = top }) ≤ cap c) where
    abbrev left : ℕ → ℕ
    left k = sum n (λ c. portion (reached c) (weight c (iter top U k c)))

    progress : (k : ℕ) → Still k ⊎ (left (suc k) < left k)
    progress k =
        elim (dec_le (left k) (left (suc k))) [
          | yes q ↦
              inl (λ c l r. tight k c l r (portion_eq (reached c) _ _ r (sum_tight n (λ a. portion (reached a) (weight a (iter top U (suc k) a))) (λ a. portion (reached a) (weight a (iter top U k a))) (λ a m. portion_le (reached a) _ _ (drops k a m)) q c l)))
          | no q ↦ inr (omega arith)
        ]

    left_first : left 0 ≤ sum n (λ c. portion (reached c) (cap c))
    unfolding iter bottom
    left_first = sum_le n (λ c. portion (reached c) (weight c (iter top U 0 c))) (λ c. portion (reached c) (cap c)) (λ c l. portion_le (reached c) _ _ (λ r. heavy c))

    -- as long as no round was equalled by the next, the bound is not passed
    pub in_bound : (k : ℕ) → ((j : ℕ) → j < k → ¬ Still j) → k ≤ sum n (λ c. portion (reached c) (cap c))
    in_bound k h = omega (arith, left_first, paid left Still progress k h)

    pub still_by : (k : ℕ) → sum n (λ c. portion (reached c) (cap c)) ≤ k → Still k
    still_by k h = settles left Still progress stays k (omega (arith, left_first))
