-- What the entries stand for after the sweep: the high end of the body value. Assumes nothing.
use mathlib.Core.Path.{◌≡◌, sym, ◌∙◌, ap, subst}
use mathlib.Core.Logic.{⊎_elim}
use mathlib.Core.Bool.{Bool, true}
use mathlib.Core.List.{List, [], ◌∷◌}
use Prim.Native.Nat.{ℕ, ◌+◌, ◌*◌, ◌-◌, ◌≤◌, ◌<◌}
use native.Mathlib.Omega.{arith}
use lib.ListN.{length, get_or, take, drop, length-take, length-drop}
use lib.Seq.{get_or-take, get_or-drop}
use borrow.Author.Tests.{eq-eqb, ne_eqb}
use Rattle.fixpoint.specs.Interval.{Interval, Assign}
use Rattle.semantics.specs.Area.{line_at, page_of, top_of, conditions_of, count_of}
use Rattle.semantics.specs.Body.{line_body, bodyless, T}
use Rattle.semantics.specs.Grade.{upper}
use Rattle.page.specs.Places.{place_of, LineOf}
use Rattle.page.proofs.LineNumbers.{line_of, shape}
use Rattle.value.specs.Table.{Grades, EndTable}
use Rattle.value.proofs.BodyEnds.{body_some, body_has, body_none}
use Rattle.value.proofs.Tables.{table_of_lem, grades_of}
use Rattle.settle.specs.Scratch.{held}
use Rattle.unknowns.specs.NextHighs.{high_from, Mapped, Above, Swept, HighTable, NextHighs}
use Rattle.unknowns.proofs.Storing.{steady_on}
use Rattle.page.specs.Solvable.{solvable}

pub from_none : (d : ℕ) {x : ℕ} → x ≡ 0 → high_from d x ≡ d
from_none d {x} e = rw (eq-eqb x 0 e)

pub from_some : (d : ℕ) {x : ℕ} → 0 < x → high_from d x ≡ x - 1
from_some d {x} l = rw (ne_eqb x 0 (λ e. omega arith))

-- an entry for all lines of c stands for the high end of its body value
module _ (a : List ℕ) (ok : solvable a ≡ true) (I : Assign) (c x : ℕ) (h : Above a I (LineOf a c) c x) where
  abbrev line : ℕ → List Interval
  line j = line_body (top_of a) I c (line_at (drop (place_of a j) a))

  -- with 0 there is no line
  no_line : x ≡ 0 → (j : ℕ) → j < count_of a → line j ≡ []
  no_line e j l = ⊎_elim (λ z. z) (λ z. let o = line_of (top_of a) I c a j l z.1 in absurd (omega (arith, h.most (place_of a j) o o z.0 z.1))) (shape (top_of a) I c (line_at (drop (place_of a j) a)))

  none : x ≡ 0 → high_from (bodyless (page_of a) c).high x ≡ (T (page_of a) I c).high
  none e = from_none (bodyless (page_of a) c).high e ∙ sym (ap (λ (p : Interval). p.high) (body_none a ok I c (no_line e)))

  module _ {p : ℕ} (o : LineOf a c p) (q : Interval) (d : line_body (top_of a) I c (line_at (drop p a)) ≡ q ∷ []) (e : x ≡ q.high + 1) where
    d' : line o.number ≡ q ∷ []
    d' = subst (λ (k : ℕ). line_body (top_of a) I c (line_at (drop k a)) ≡ q ∷ []) o.place d

    most : (T (page_of a) I c).high ≤ q.high
    most =
        body_some upper a ok I c q.high (λ j l r z. let w = line_of (top_of a) I c a j l z in omega (arith, h.most (place_of a j) w w r z, e))
        o.number o.in_count q d'

    some : high_from (bodyless (page_of a) c).high x ≡ (T (page_of a) I c).high
    some = from_some (bodyless (page_of a) c).high {x = x} (omega (arith, e)) ∙ omega (arith, e, most, body_has upper a ok I c o.number o.in_count q d')

  pub stands_for : high_from (bodyless (page_of a) c).high x ≡ (T (page_of a) I c).high
  stands_for = ⊎_elim none (λ w. some w.1 w.2 w.3 w.4) h.some

-- the table of high ends, as the part of the scratch that the code takes
module _ (a s : List ℕ) (h : HighTable a s) (base : ℕ) (b : base ≡ 2 * conditions_of a) where
  abbrev part : List ℕ
  part = take (base + 2 * conditions_of a - base) (drop base s)

  part_get : (i : ℕ) → i < 2 * conditions_of a → get_or part i 0 ≡ get_or s (2 * conditions_of a + i) 0
  part_get i l = get_or-take (base + 2 * conditions_of a - base) (drop base s) i 0 (omega (arith, b)) ∙ get_or-drop base s i 0 ∙ ap (λ (k : ℕ). get_or s (k + i) 0) b

  pub part_table : EndTable upper (top_of a) (conditions_of a) (held (conditions_of a) s) part
  part_table =
      table_of_lem upper (top_of a) (conditions_of a) (held (conditions_of a) s) part
      (λ c l. record { plain = part_get (2 * c) (omega arith); negative = part_get (2 * c + 1) (omega arith) ∙ h.negated c l })

  part_long : 2 * conditions_of a ≤ length part
  part_long = simp (length-take, length-drop) (omega (arith, b, h.long))

  pub part_grades : Grades (top_of a) (conditions_of a) part
  part_grades = grades_of upper (top_of a) (conditions_of a) (held (conditions_of a) s) part part_long (λ c l. (h.within c l).high_in) part_table

  -- the three steps together
  pub next_highs : {m : List Bool} {next₀ next₁ next₂ next₃ : List ℕ} → solvable a ≡ true → Mapped a m (λ c x. 0) next₀ next₁ → Swept a m part next₁ next₂
      → Mapped a m (λ c x. high_from (bodyless (page_of a) c).high x) next₂ next₃ → NextHighs a m s next₀ next₃
  next_highs {m} {next₀} {next₁} {next₂} {next₃} ok u v w =
      record {
        steady = steady_on a m (steady_on a m u.steady v.steady) w.steady;
        each = λ c l r. w.each c l r ∙ stands_for a ok (held (conditions_of a) s) c (get_or next₂ c 0) (v.above (held (conditions_of a) s) part_table c l r (u.each c l r));
      }
