-- Whether the literals of a rule, and so a line, name a condition of a set. Assumes nothing.
use mathlib.Core.Path.{◌≡◌, refl, sym, ◌∙◌, ap}
use mathlib.Core.Bool.{Bool, true, false, ◌&&◌, ◌||◌, false≢true, true≢false}
use mathlib.Core.Logic.{⊎_elim}
use mathlib.Core.List.{List, [], ◌∷◌, map}
use Prim.Native.Nat.{ℕ, ◌/◌, ◌<◌}
use native.Mathlib.Decide.{dec_le}
use native.Mathlib.Omega.{arith}
use lib.Dec.{eqb}
use lib.ListN.{length, get_or-eq_default}
use Rattle.std.specs.List.{list_any}
use borrow.Author.Tests.{eq-eqb, eqb-true}
use Rattle.semantics.specs.Area.{literal_of}
use Rattle.semantics.specs.Page.{mentions}
use Rattle.semantics.proofs.Layers.{or_left, or_right}
use Rattle.semantics.proofs.Soundness.{both_true, subject_of}
use Rattle.semantics.proofs.Table.{iff_eq, or_cases, any_true, any_found}
use Rattle.bits.specs.Words.{has}
use Rattle.bits.proofs.Sets.{word_none}
use Rattle.followers.specs.Rows.{meets}

-- which conditions of the set have f
module _ (set : List ℕ) where
  pub meets_one : (f : ℕ → Bool) (b : ℕ) → b < 512 → has set b ≡ true → f b ≡ true → meets set f ≡ true
  meets_one f b l p q = any_true 512 (λ k. has set k && f k) b l (rw (p, q))

  pub meets_found : (f : ℕ → Bool) → meets set f ≡ true → (b : ℕ) × (b < 512) × (has set b ≡ true) × (f b ≡ true)
  meets_found f e =
      let h = any_found 512 (λ k. has set k && f k) e in
      let g = both_true (has set h.0) (f h.0) h.2 in
      (h.0, h.1, g.0, g.1)

  pub meets_none : (f : ℕ → Bool) → ((b : ℕ) → b < 512 → has set b ≡ true → f b ≡ false) → meets set f ≡ false
  meets_none f h =
      iff_eq _ _ (λ e. let g = meets_found f e in absurd (true≢false (sym g.3 ∙ h g.0 g.1 g.2))) (λ e. absurd (false≢true e))

  pub meets_as : (f g : ℕ → Bool) → ((b : ℕ) → f b ≡ g b) → meets set f ≡ meets set g
  meets_as f g h =
      iff_eq _ _ (λ e. let q = meets_found f e in meets_one g q.0 q.1 q.2 (sym (h q.0) ∙ q.3))
      (λ e. let q = meets_found g e in meets_one f q.0 q.1 q.2 (h q.0 ∙ q.3))

-- a list of literals by their numbers: one is of a condition of the set
module _ (set : List ℕ) (size : length set ≡ 8) where
  has_small : (k : ℕ) → has set k ≡ true → k < 512
  has_small k e =
      elim (dec_le 512 k) [
        | yes m ↦ absurd (false≢true (sym (word_none set k (get_or-eq_default set 0 (omega arith))) ∙ e))
        | no m ↦ omega arith
      ]

  meets_more : (k : ℕ) (f : ℕ → Bool) → (has set k || meets set f) ≡ meets set (λ b. eqb k b || f b)
  meets_more k f =
      iff_eq _ _
      (λ e.
      ⊎_elim (λ h. meets_one set (λ b. eqb k b || f b) k (has_small k h) h (or_left (eqb k k) (f k) (eq-eqb k k refl)))
      (λ h. let g = meets_found set f h in meets_one set (λ b. eqb k b || f b) g.0 g.1 g.2 (or_right (eqb k g.0) (f g.0) g.3))
      (or_cases (has set k) (meets set f) e))
      (λ e.
      let g = meets_found set (λ b. eqb k b || f b) e in
      ⊎_elim (λ q. or_left (has set k) (meets set f) (ap (has set) (eqb-true k g.0 q) ∙ g.2)) (λ q. or_right (has set k) (meets set f) (meets_one set f g.0 g.1 g.2 q))
      (or_cases (eqb k g.0) (f g.0) g.3))

  pub literals_met : (codes : List ℕ) → list_any (λ k. has set (k / 2)) codes ≡ meets set (mentions (map literal_of codes))
  unfolding mentions
  literals_met [] = sym (meets_none set (λ b. false) (λ b l p. refl))
  literals_met (k ∷ ks) = rw (literals_met ks, subject_of k) (meets_more (k / 2) (mentions (map literal_of ks)))
