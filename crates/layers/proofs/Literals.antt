-- The literals of a rule by their numbers in the area: which conditions they name, and which they negate. Assumes nothing.
use mathlib.Core.Path.{◌≡◌, refl, sym, ◌∙◌, subst}
use mathlib.Core.Logic.{⊎_elim}
use mathlib.Core.Bool.{Bool, true, false, not, cond, ◌&&◌, ◌||◌, and-false, false≢true}
use mathlib.Core.List.{List, ◌∷◌, map}
use Prim.Native.Nat.{ℕ, zero, suc, ◌+◌, ◌*◌, ◌/◌, ◌%◌, ◌≤◌, ◌<◌}
use native.Mathlib.Decide.{ℕ_discrete}
use native.Mathlib.Numerals.{add-one}
use native.Mathlib.Omega.{arith}
use lib.Dec.{eqb}
use lib.ListN.{length, get_or, take, drop}
use Rattle.std.proofs.lemmas.List.{length-take, length-drop, get_or-take, get_or-drop}
use lib.Seq.{drop-cons}
use borrow.Author.Tests.{eq-eqb, ne_eqb, eqb-true}
use Rattle.semantics.specs.Area.{Kind, fact_kind, rule_kind, query_kind, default_kind, no_kind, kind, literal_of, line_as, line_at, top_of, conditions_of}
use Rattle.semantics.specs.Layers.{denies, lines_negate}
use Rattle.semantics.specs.Page.{Literal, positive, negative, condition_of, mentions, Line}
use Rattle.semantics.proofs.Layers.{or_right}
use Rattle.semantics.proofs.Soundness.{both_true, subject_of}
use Rattle.semantics.proofs.Table.{or_cases}
use Rattle.page.specs.Graded.{RuleAt}
use Rattle.page.specs.Places.{RuleIn}
use Rattle.page.specs.Solvable.{solvable}
use Rattle.page.proofs.Entries.{code_in}
use Rattle.page.proofs.LineNumbers.{rule_in}
use Rattle.page.proofs.Scan.{rule_kind_lem, fact_kind_lem, over_five, line_at_lem}
use Rattle.layers.specs.Raising.{line_negates}

-- a literal is negated exactly if its number is odd
parity : (k : ℕ) → eqb (k % 2) 1 ≡ not (eqb (k % 2) 0)
parity k =
    elim (ℕ_discrete (k % 2) 0) [
      | yes q ↦ rw (eq-eqb (k % 2) 0 q) (ne_eqb (k % 2) 1 (λ e. omega arith))
      | no q ↦ rw (ne_eqb (k % 2) 0 q) (eq-eqb (k % 2) 1 (omega arith))
    ]

denies_cons : (k : ℕ) (ls : List Literal) (b : ℕ) → denies (literal_of k ∷ ls) b ≡ ((eqb (k % 2) 1 && eqb (k / 2) b) || denies ls b)
unfolding denies
denies_cons k ls b = go (eqb (k % 2) 0) (eqb (k % 2) 1) (parity k)
  where
    go : (t u : Bool) → u ≡ not t → denies (cond t (positive (k / 2)) (negative (k / 2)) ∷ ls) b ≡ ((u && eqb (k / 2) b) || denies ls b)
    go true u e = rw e
    go false u e = rw e

module _ (a : List ℕ) where
  -- r numbers from x on, as literals
  abbrev lits : ℕ → ℕ → List Literal
  lits x r = map literal_of (take r (drop x a))

  part_suc : (x r : ℕ) → x < length a → take (suc r) (drop x a) ≡ get_or a x 0 ∷ take r (drop (x + 1) a)
  part_suc x r l = rw (drop-cons a x 0 l, add-one x)

  -- the literal at j is one of them
  pub code_named : (r x i j : ℕ) → x + r ≤ length a → i < r → j ≡ x + i → mentions (lits x r) (get_or a j 0 / 2) ≡ true
  unfolding mentions
  code_named zero x i j l h e = absurd (omega arith)
  code_named (suc r) x zero j l h e =
      let q : j ≡ x = omega arith in
      rw (q, part_suc x r (omega arith), subject_of (get_or a x 0), eq-eqb (get_or a x 0 / 2) (get_or a x 0 / 2) refl)
  code_named (suc r) x (suc i) j l h e =
      rw (part_suc x r (omega arith)) (or_right (eqb (condition_of (literal_of (get_or a x 0))) (get_or a j 0 / 2)) _ (code_named r (x + 1) i j (omega arith) (omega arith) (omega arith)))

  pub code_negated : (r x i j : ℕ) → x + r ≤ length a → i < r → j ≡ x + i → get_or a j 0 % 2 ≡ 1 → denies (lits x r) (get_or a j 0 / 2) ≡ true
  unfolding denies
  code_negated zero x i j l h e o = absurd (omega arith)
  code_negated (suc r) x zero j l h e o =
      let q : j ≡ x = omega arith in
      rw (q, part_suc x r (omega arith)) (denies_cons (get_or a x 0) (lits (x + 1) r) (get_or a x 0 / 2) ∙ rw (eq-eqb (get_or a x 0 % 2) 1 (rw q at o), eq-eqb (get_or a x 0 / 2) (get_or a x 0 / 2) refl))
  code_negated (suc r) x (suc i) j l h e o =
      rw (part_suc x r (omega arith))
      (denies_cons (get_or a x 0) (lits (x + 1) r) (get_or a j 0 / 2) ∙ or_right (eqb (get_or a x 0 % 2) 1 && eqb (get_or a x 0 / 2) (get_or a j 0 / 2)) _ (code_negated r (x + 1) i j (omega arith) (omega arith) (omega arith) o))

  -- what is named has its literal
  pub named_code : (r x b : ℕ) → x + r ≤ length a → mentions (lits x r) b ≡ true → (i : ℕ) × (i < r) × (get_or a (x + i) 0 / 2 ≡ b)
  unfolding mentions
  named_code zero x b l e = absurd (false≢true e)
  named_code (suc r) x b l e =
      ⊎_elim
      (λ h. (0, omega arith, subst (λ (j : ℕ). get_or a j 0 / 2 ≡ b) {x = x} {y = x + 0} (omega arith) (sym (subject_of (get_or a x 0)) ∙ eqb-true (condition_of (literal_of (get_or a x 0))) b h)))
      (λ h.
      let f : (i : ℕ) × (i < r) × (get_or a (x + 1 + i) 0 / 2 ≡ b) = named_code r (x + 1) b (omega arith) h in
      (suc f.0, omega (arith, f.1), subst (λ (j : ℕ). get_or a j 0 / 2 ≡ b) {x = x + 1 + f.0} {y = x + suc f.0} (omega arith) f.2))
      (or_cases (eqb (condition_of (literal_of (get_or a x 0))) b) (mentions (lits (x + 1) r) b) (rw (part_suc x r (omega arith)) at e))

  pub negated_code : (r x b : ℕ) → x + r ≤ length a → denies (lits x r) b ≡ true → (i : ℕ) × (i < r) × (get_or a (x + i) 0 % 2 ≡ 1) × (get_or a (x + i) 0 / 2 ≡ b)
  unfolding denies
  negated_code zero x b l e = absurd (false≢true e)
  negated_code (suc r) x b l e =
      ⊎_elim
      (λ h.
      let k = both_true (eqb (get_or a x 0 % 2) 1) (eqb (get_or a x 0 / 2) b) h in
      let q : x ≡ x + 0 = omega arith in
      (0, omega arith, subst (λ (j : ℕ). get_or a j 0 % 2 ≡ 1) q (eqb-true _ 1 k.0), subst (λ (j : ℕ). get_or a j 0 / 2 ≡ b) q (eqb-true _ b k.1)))
      (λ h.
      let f : (i : ℕ) × (i < r) × (get_or a (x + 1 + i) 0 % 2 ≡ 1) × (get_or a (x + 1 + i) 0 / 2 ≡ b) = negated_code r (x + 1) b (omega arith) h in
      let q : x + 1 + f.0 ≡ x + suc f.0 = omega arith in
      (suc f.0, omega (arith, f.1), subst (λ (j : ℕ). get_or a j 0 % 2 ≡ 1) q f.2, subst (λ (j : ℕ). get_or a j 0 / 2 ≡ b) q f.3))
      (or_cases (eqb (get_or a x 0 % 2) 1 && eqb (get_or a x 0 / 2) b) (denies (lits (x + 1) r) b) (sym (denies_cons (get_or a x 0) (lits (x + 1) r) b) ∙ rw (part_suc x r (omega arith)) at e))

-- the literals of a rule of a page, as `literals` gives them, by their place among them
module _ (a : List ℕ) (ok : solvable a ≡ true) {at : ℕ} (h : RuleIn a at) {codes : List ℕ} (e : codes ≡ take (get_or a (at + 3) 0) (drop (at + 4) a)) where
  rule : RuleAt (top_of a) (conditions_of a) a at
  rule = rule_in a ok h

  pub codes_length : length codes ≡ get_or a (at + 3) 0
  codes_length = rw e (omega (arith, rule.fits, length-take {A = ℕ}, length-drop {A = ℕ}))

  module _ (i : ℕ) (l : i < length codes) where
    in_count : i < get_or a (at + 3) 0
    in_count = omega (arith, codes_length)

    pub code_at : get_or codes i 0 ≡ get_or a (at + 4 + i) 0
    code_at = rw e (get_or-take (get_or a (at + 3) 0) (drop (at + 4) a) i 0 in_count ∙ get_or-drop (at + 4) a i 0)

    pub code_below : get_or codes i 0 < 2 * conditions_of a
    code_below = omega (arith, code_at, code_in (top_of a) (conditions_of a) a at rule i in_count)

-- the line at a place negates c if it is a rule whose literals do
module _ (a : List ℕ) (at c : ℕ) where
  pub line_denies : 1 ≤ get_or a (at + 1) 0 → get_or a (at + 1) 0 ≤ 5 → line_negates (line_at (drop at a)) c ≡ denies (map literal_of (take (get_or a (at + 3) 0) (drop (at + 4) a))) c
  line_denies l u = rw (line_at_lem a at, (rule_kind_lem (get_or a (at + 1) 0) l u).1)

  pub fact_denies : get_or a (at + 1) 0 < 1 → line_negates (line_at (drop at a)) c ≡ false
  fact_denies h = rw (line_at_lem a at, fact_kind_lem (get_or a (at + 1) 0) (omega arith))

  pub over_denies : 5 < get_or a (at + 1) 0 → line_negates (line_at (drop at a)) c ≡ false
  over_denies h = rw (line_at_lem a at) (⊎_elim (λ e. rw e) (⊎_elim (λ e. rw e) (λ e. rw e)) (over_five (get_or a (at + 1) 0) h))

-- lines that begin with the one at a place: it is of the head and negates c, or those behind it decide
pub lines_negate_lem : (a : List ℕ) (at head c : ℕ) (ls : List Line)
    → lines_negate (line_at (drop at a) ∷ ls) head c ≡ ((eqb (get_or a at 0) head && line_negates (line_at (drop at a)) c) || lines_negate ls head c)
unfolding lines_negate
lines_negate_lem a at head c ls = rw (line_at_lem a at) (go (kind (get_or a (at + 1) 0)) (get_or a at 0) (get_or a (at + 2) 0) (get_or a (at + 3) 0) _)
  where
    go : (t : Kind) (d x y : ℕ) (lits : List ℕ) → lines_negate (line_as t d x y lits ∷ ls) head c ≡ ((eqb d head && line_negates (line_as t d x y lits) c) || lines_negate ls head c)
    go fact_kind d x y lits = rw (and-false (eqb d head))
    go (rule_kind op) d x y lits = refl
    go query_kind d x y lits = rw (and-false (eqb d head))
    go default_kind d x y lits = rw (and-false (eqb d head))
    go no_kind d x y lits = rw (and-false (eqb d head))
