-- Tables of one end of every literal: what stands at the two codes of a condition, and which tables are right. Assumes nothing.
use mathlib.Core.Path.{◌≡◌, refl, sym, ◌∙◌, ap, subst}
use mathlib.Core.List.{List}
use Prim.Native.Nat.{ℕ, ◌+◌, ◌*◌, ◌-◌, ◌/◌, ◌%◌, ◌≤◌, ◌<◌}
use native.Mathlib.Decide.{ℕ_discrete}
use native.Mathlib.Omega.{arith}
use lib.ListN.{length, get_or}
use borrow.Author.Tests.{eq-eqb, ne_eqb}
use Rattle.fixpoint.specs.Interval.{Interval, Assign}
use Rattle.semantics.specs.Area.{literal_of}
use Rattle.semantics.specs.Body.{literal_value}
use Rattle.semantics.specs.Grade.{End, lower, upper, negated}
use Rattle.value.specs.Table.{end_of, other, Grades, EndTable}

-- "The negation of [a;b] is [top−b; top−a]": an end of it is top less the other end
pub end_negated : (e : End) (top : ℕ) (p : Interval) → end_of e (negated top p) ≡ top - end_of (other e) p
unfolding negated
end_negated lower top p = refl
end_negated upper top p = refl

-- the literals of the codes 2 × c and 2 × c + 1
module _ (top : ℕ) (I : Assign) (c : ℕ) where
  plain_code : literal_value top I (literal_of (2 * c)) ≡ I c
  plain_code =
      let h : (2 * c) / 2 ≡ c = omega arith in
      rw (eq-eqb ((2 * c) % 2) 0 (omega arith), h)

  negated_code : literal_value top I (literal_of (2 * c + 1)) ≡ negated top (I c)
  negated_code =
      let h : (2 * c + 1) / 2 ≡ c = omega arith in
      rw (ne_eqb ((2 * c + 1) % 2) 0 (λ e. omega arith), h)

-- what a table holds for the condition c
pub record EndsAt (e : End) (top : ℕ) (I : Assign) (values : List ℕ) (c : ℕ) : Type 0 where
  pub plain : get_or values (2 * c) 0 ≡ end_of e (I c)
  pub negative : get_or values (2 * c + 1) 0 ≡ top - end_of (other e) (I c)

module _ (e : End) (top n : ℕ) (I : Assign) (values : List ℕ) where
  pub table_at_lem : EndTable e top n I values → (c : ℕ) → c < n → EndsAt e top I values c
  table_at_lem t c l =
      record {
        plain = t (2 * c) (omega arith) ∙ ap (end_of e) (plain_code top I c);
        negative = t (2 * c + 1) (omega arith) ∙ ap (end_of e) (negated_code top I c) ∙ end_negated e top (I c);
      }

  pub table_of_lem : ((c : ℕ) → c < n → EndsAt e top I values c) → EndTable e top n I values
  table_of_lem h code l =
      elim (ℕ_discrete (code % 2) 0) [
        | yes z ↦ subst at (omega arith) ((h (code / 2) (omega arith)).plain ∙ sym (ap (end_of e) (plain_code top I (code / 2))))
        | no z ↦ subst at (omega arith) ((h (code / 2) (omega arith)).negative ∙ sym (ap (end_of e) (negated_code top I (code / 2)) ∙ end_negated e top (I (code / 2))))
      ]
    where
      at : ℕ → Type 0
      at k = get_or values k 0 ≡ end_of e (literal_value top I (literal_of k))

-- a table of grades holds grades
pub grades_of : (e : End) (top n : ℕ) (I : Assign) (values : List ℕ) → 2 * n ≤ length values
    → ((c : ℕ) → c < n → end_of e (I c) ≤ top) → EndTable e top n I values → Grades top n values
grades_of e top n I values w h t =
    record {
      long = w;
      grade = λ code l.
          let s = table_at_lem e top n I values t (code / 2) (omega arith) in
          elim (ℕ_discrete (code % 2) 0) [
            | yes z ↦ subst (λ (k : ℕ). get_or values k 0 ≤ top) {x = 2 * (code / 2)} (omega arith) (omega (arith, s.plain, h (code / 2) (omega arith)))
            | no z ↦ subst (λ (k : ℕ). get_or values k 0 ≤ top) {x = 2 * (code / 2) + 1} (omega arith) (omega (arith, s.negative))
          ];
    }
