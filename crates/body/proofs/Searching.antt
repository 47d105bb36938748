-- The search for the first line of a condition with a low end, in the code's own terms. Assumes nothing.
use mathlib.Core.Path.{◌≡◌, sym, ◌∙◌, ap, subst}
use mathlib.Core.Logic.{⊎_elim, inl, inr}
use mathlib.Core.Bool.{Bool, true, false, cond}
use mathlib.Core.List.{List, [], ◌∷◌}
use Prim.Native.Nat.{ℕ, suc, ◌+◌, ◌≤◌, ◌<◌, max}
use native.Mathlib.Numerals.{add-one}
use native.Mathlib.Omega.{arith}
use lib.Dec.{eqb}
use lib.ListN.{get_or, drop}
use Rattle.fixpoint.specs.Interval.{Assign}
use Rattle.semantics.specs.Area.{page_of, top_of, conditions_of, count_of, line_at, first_line}
use Rattle.semantics.specs.Body.{line_body}
use Rattle.semantics.specs.Grade.{lower}
use Rattle.semantics.specs.Holding.{has_low, first_with}
use Rattle.page.specs.Places.{place_of, LineIn}
use Rattle.page.specs.Lines.{Next}
use Rattle.page.proofs.Scanning.{lines_left, lines_first, lines_none}
use Rattle.page.proofs.LineNumbers.{lines_from, shape, line_of}
use Rattle.std.specs.Prelude.{Option, None, Some}
use Rattle.value.specs.declared.Ends.{Ends}
use Rattle.value.specs.Table.{EndTable}
use Rattle.value.specs.LineEnds.{LineEnd}
use Rattle.body.specs.Body.{Taken}
use Rattle.body.specs.FirstLine.{FirstLine}
use Rattle.body.proofs.Gathering.{here_line}
use Rattle.page.proofs.LineNumbers.{place_first, place_next}
use Rattle.page.specs.Solvable.{solvable}

module _ (a : List ℕ) (low : ℕ) where
  -- whether the line at a place has this low end: an F or R line by its value, any other never
  low_of_line : {values : List ℕ} {at x : ℕ} → LineEnd lower a values at x → (I : Assign) → EndTable lower (top_of a) (conditions_of a) I values
      → eqb x low ≡ has_low low (line_body (top_of a) I (get_or a at 0) (line_at (drop at a)))
  low_of_line v I t = let w = v.is I t in sym (ap (has_low low) w.1 ∙ ap (λ (y : ℕ). eqb y low) (sym w.2))

  -- a line that is not an F or R line of c adds nothing to its body
  module _ {at : ℕ} (h : LineIn a at) (c : ℕ) (I : Assign) where
    adds_nothing : (get_or a at 0 ≡ c → get_or a (at + 1) 0 ≤ 5 → ⊥) → line_body (top_of a) I c (line_at (drop at a)) ≡ []
    adds_nothing n =
        ⊎_elim (λ z. z)
        (λ z.
        let e = subst (λ (p : ℕ). line_body (top_of a) I c (line_at (drop p a)) ≡ z.0 ∷ []) h.place z.1 in
        let o = line_of (top_of a) I c a h.number h.in_count e in
        absurd (n (ap (λ (p : ℕ). get_or a p 0) h.place ∙ o.head) (subst (λ (p : ℕ). get_or a (p + 1) 0 ≤ 5) (sym h.place) o.body)))
        (shape (top_of a) I c (line_at (drop at a)))

    pub low_of_none : (get_or a at 0 ≡ c → get_or a (at + 1) 0 ≤ 5 → ⊥) → false ≡ has_low low (line_body (top_of a) I c (line_at (drop at a)))
    low_of_none n = sym (ap (has_low low) (adds_nothing n))

  -- by taking the line in alone
  -- whether the ends told, if any are, have this low end
  abbrev pub low_told : Option Ends → Bool
  low_told None = false
  low_told (Some e) = eqb e.low low

  module _ {values : List ℕ} {at : ℕ} (h : LineIn a at) where
    pub low_of_taken : {one : Option Ends} → Taken a values (get_or a at 0) at None one → (I : Assign) → EndTable lower (top_of a) (conditions_of a) I values
        → low_told one ≡ has_low low (line_body (top_of a) I (get_or a at 0) (line_at (drop at a)))
    low_of_taken (inl t) I s = ap low_told t.same ∙ low_of_none h (get_or a at 0) I (λ q b. t.not_here (here_line h q b))
    low_of_taken (inr t) I s = ap low_told t.most ∙ ap (λ (y : ℕ). eqb y low) (max_none t.low_end) ∙ low_of_line t.low_is I s
      where
        max_none : (x : ℕ) → max 0 x ≡ x
        max_none x = omega arith

module _ (a values : List ℕ) (c low : ℕ) where
  -- k lines are passed and none of them is it: the search goes on with the line at `at`
  pub record Searching (at k : ℕ) : Type 0 where
    pub place : at ≡ place_of a k
    pub within : k ≤ count_of a
    pub onward : (I : Assign) → EndTable lower (top_of a) (conditions_of a) I values
        → first_with (top_of a) I c low 2 (page_of a).lines ≡ first_with (top_of a) I c low (k + 2) (lines_left a (place_of a k) k)

  pub searching_first : {at k : ℕ} → (at ≡ first_line a) × (k ≡ 0) → Searching at k
  unfolding place_of
  searching_first {at} {k} q =
      record {
        place = place_first a q;
        within = omega arith;
        onward = λ I t. rw q.1 (ap (first_with (top_of a) I c low 2) (sym (lines_first a)));
      }

  pub searching_none : {at k : ℕ} → Searching at k → count_of a ≤ k → FirstLine a values c low 0
  unfolding first_with
  searching_none {at} {k} s l = record { is = λ I t. sym (s.onward I t ∙ ap (first_with (top_of a) I c low (k + 2)) (lines_none a (place_of a k) k l)) }

  module _ (ok : solvable a ≡ true) {at k : ℕ} (s : Searching at k) (l : k < count_of a) where
    pub line_here : LineIn a at
    line_here = record { number = k; in_count = l; place = s.place }

    -- this line, then those behind it
    onward_by : (I : Assign) → EndTable lower (top_of a) (conditions_of a) I values → {t : Bool} → t ≡ has_low low (line_body (top_of a) I c (line_at (drop at a)))
        → first_with (top_of a) I c low 2 (page_of a).lines ≡ cond t (k + 2) (first_with (top_of a) I c low (suc (k + 2)) (lines_left a (place_of a (suc k)) (suc k)))
    unfolding first_with
    onward_by I t e =
        s.onward I t
        ∙ ap (first_with (top_of a) I c low (k + 2)) (lines_from a ok k l)
        ∙ ap (λ (x : Bool). cond x (k + 2) (first_with (top_of a) I c low (suc (k + 2)) (lines_left a (place_of a (suc k)) (suc k))))
        (sym (e ∙ ap (λ (p : ℕ). has_low low (line_body (top_of a) I c (line_at (drop p a)))) s.place))

    pub searching_found : ((I : Assign) → EndTable lower (top_of a) (conditions_of a) I values → true ≡ has_low low (line_body (top_of a) I c (line_at (drop at a)))) → FirstLine a values c low (k + 2)
    searching_found h = record { is = λ I t. sym (onward_by I t (h I t)) }

    pub searching_next : ((I : Assign) → EndTable lower (top_of a) (conditions_of a) I values → false ≡ has_low low (line_body (top_of a) I c (line_at (drop at a))))
        → {at' k' : ℕ} → Next a at k at' k' → Searching at' k'
    searching_next h {at'} {k'} m =
        let q : k' ≡ suc k = m.count ∙ add-one k in
        let z : suc (k + 2) ≡ suc k + 2 = omega arith in
        record {
          place = place_next a s.place m;
          within = omega (arith, m.count);
          onward = λ I t. rw q (onward_by I t (h I t) ∙ ap (λ (j : ℕ). first_with (top_of a) I c low j (lines_left a (place_of a (suc k)) (suc k))) z);
        }
