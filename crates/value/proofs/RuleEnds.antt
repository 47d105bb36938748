-- An end of a rule's value over a table of that end: the ends of `fold_from` and `weighted`, and what the rule's entry holds.
-- Assumes nothing.
use mathlib.Core.Path.{◌≡◌, refl, sym, ◌∙◌, ap, ap₂}
use mathlib.Core.Bool.{true}
use mathlib.Core.List.{List, [], ◌∷◌, map, foldl}
use Prim.Native.Nat.{ℕ, ◌+◌, ◌*◌, ◌-◌, ◌≤◌, ◌<◌}
use native.Mathlib.Omega.{arith}
use lib.Dec.{ltb}
use lib.ListN.{length, get_or, take, drop, length-take, length-drop}
use lib.Seq.{get_or-take, get_or-drop}
use borrow.Author.Tests.{ltb-true}
use Rattle.fixpoint.specs.Interval.{Interval, Assign}
use Rattle.semantics.specs.Area.{kind, rule_kind, all_under, literal_of, top_of, conditions_of}
use Rattle.semantics.specs.Body.{literal_value}
use Rattle.semantics.specs.Grade.{End, lower, upper, Op, combine, divided, endwise, fold_from, fold_all, weighted}
use Rattle.semantics.proofs.Ops.{divided_bounded}
use Rattle.semantics.proofs.Soundness.{both_true}
use Rattle.page.specs.Graded.{RuleAt}
use Rattle.page.proofs.Scan.{part_cons, rule_kind_lem}
use Rattle.page.proofs.Entries.{code_first, code_in}
use Rattle.page.proofs.Head.{head_of}
use Rattle.value.specs.Table.{end_of, Grades, EndTable}
use Rattle.value.specs.LineEnds.{behind_first, numbers_of, Foldable, Folded, RuleEnd}
use Rattle.value.proofs.Folds.{folded_in}
use Rattle.page.specs.Solvable.{solvable}

-- the end of a fold is the fold of the ends, and so for the weight
end_fold : (e : End) (f : End → ℕ → ℕ → ℕ) (p : Interval) (ps : List Interval) → end_of e (fold_from (endwise f) p ps) ≡ foldl (f e) (end_of e p) (map (end_of e) ps)
unfolding fold_from
end_fold lower f p [] = refl
end_fold upper f p [] = refl
end_fold lower f p (q ∷ ps) = end_fold lower f (endwise f p q) ps
end_fold upper f p (q ∷ ps) = end_fold upper f (endwise f p q) ps

end_weighted : (e : End) (top w : ℕ) (p : Interval) → end_of e (weighted top w p) ≡ divided e (end_of e p * w) top
unfolding weighted
end_weighted lower top w p = refl
end_weighted upper top w p = refl

-- the numbers of codes below 2 × n are the ends of their literals
table_numbers : (e : End) (top n : ℕ) (I : Assign) (values codes : List ℕ) → EndTable e top n I values → all_under (2 * n) codes ≡ true
    → numbers_of values codes ≡ map (end_of e) (map (literal_value top I) (map literal_of codes))
unfolding all_under
table_numbers e top n I values [] t u = refl
table_numbers e top n I values (code ∷ codes) t u =
    let b = both_true (ltb code (2 * n)) (all_under (2 * n) codes) u in
    ap₂ (λ (x : ℕ) (xs : List ℕ). x ∷ xs) (t code (ltb-true code (2 * n) b.0)) (table_numbers e top n I values codes t b.1)

-- the rule at a place
module _ (a values : List ℕ) (at : ℕ) (r : RuleAt (top_of a) (conditions_of a) a at) where
  abbrev codes : List ℕ
  codes = take (get_or a (at + 3) 0) (drop (at + 4) a)

  -- the first literal's code, and the codes behind it
  abbrev code : ℕ
  code = get_or a (at + 4) 0

  abbrev pub rest : List ℕ
  rest = behind_first a at

  codes_cons : codes ≡ code ∷ rest
  codes_cons =
      let d : at + 4 + 1 ≡ at + 5 = omega arith in
      let y : get_or a (at + 3) 0 - 1 ≡ at + 4 + get_or a (at + 3) 0 - (at + 5) = omega (arith, r.some) in
      rw (d, y) at (part_cons a (at + 4) (get_or a (at + 3) 0) (omega (arith, r.fits, r.some)) r.some)

  rest_under : all_under (2 * conditions_of a) rest ≡ true
  unfolding all_under
  rest_under = (both_true (ltb code (2 * conditions_of a)) (all_under (2 * conditions_of a) rest) (rw codes_cons at r.literals)).1

  pub code_under : code < 2 * conditions_of a
  code_under = code_first (top_of a) (conditions_of a) a at r

  rest_length : length rest ≡ at + 4 + get_or a (at + 3) 0 - (at + 5)
  rest_length = simp (length-take, length-drop) (omega (arith, r.fits, r.some))

  pub rest_code : (j : ℕ) → j < length rest → get_or rest j 0 < 2 * conditions_of a
  rest_code j l =
      let m : j < at + 4 + get_or a (at + 3) 0 - (at + 5) = omega (arith, rest_length) in
      let q : get_or rest j 0 ≡ get_or a (at + 4 + (j + 1)) 0 =
      get_or-take (at + 4 + get_or a (at + 3) 0 - (at + 5)) (drop (at + 5) a) j 0 m ∙ get_or-drop (at + 5) a j 0 ∙ ap (λ (i : ℕ). get_or a i 0) (omega arith) in
      rw q (code_in (top_of a) (conditions_of a) a at r (j + 1) (omega arith))

  -- what the fold over its literals requires
  pub foldable : solvable a ≡ true → Grades (top_of a) (conditions_of a) values → Foldable (top_of a) rest values (get_or values code 0)
  foldable ok g =
      let h = head_of a ok in
      record {
        some = h.top_least;
        small = h.top_most;
        listed = λ j l. omega (arith, rest_code j l, g.long);
        grades = λ j l. g.grade (get_or rest j 0) (rest_code j l);
        start = g.grade code code_under;
      }

  -- the end of the fold over all its literals
  rule_fold : (e : End) (I : Assign) → EndTable e (top_of a) (conditions_of a) I values → (f : End → ℕ → ℕ → ℕ)
      → end_of e (fold_all (endwise f) (map (literal_value (top_of a) I) (map literal_of codes))) ≡ foldl (f e) (get_or values code 0) (numbers_of values rest)
  unfolding fold_all
  rule_fold e I t f =
      rw codes_cons
      (end_fold e f (literal_value (top_of a) I (literal_of code)) (map (literal_value (top_of a) I) (map literal_of rest))
      ∙ ap₂ (λ (x : ℕ) (xs : List ℕ). foldl (f e) x xs) (sym (t code code_under)) (sym (table_numbers e (top_of a) (conditions_of a) I values rest t rest_under)))

  module _ (e : End) (ok : solvable a ≡ true) (g : Grades (top_of a) (conditions_of a) values)
      {x : ℕ} (h : (op : Op) → kind (get_or a (at + 1) 0) ≡ rule_kind op → Folded (combine (top_of a) op e) rest values (get_or values code 0) x) where
    pub fold_in : x ≤ top_of a
    fold_in =
        let o = rule_kind_lem (get_or a (at + 1) 0) r.least r.most in
        folded_in (top_of a) (get_or a (at + 1) 0) e rest values (get_or values code 0) x (foldable ok g) o.0 (h o.0 o.1)

    pub rule_end_is : {v : ℕ} → v ≡ divided e (x * get_or a (at + 2) 0) (top_of a) → RuleEnd e a values at v
    rule_end_is {v} q =
        record {
          grade = rw q (divided_bounded (top_of a) e fold_in r.weight);
          is = λ I t op k.
              q
              ∙ ap (λ (z : ℕ). divided e (z * get_or a (at + 2) 0) (top_of a)) ((h op k).is ∙ sym (rule_fold e I t (combine (top_of a) op)))
              ∙ sym (end_weighted e (top_of a) (get_or a (at + 2) 0) _);
        }
