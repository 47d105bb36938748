-- The sweep over the lines: the entry of a condition sought is above the high ends of its lines passed. Assumes nothing.
use mathlib.Core.Path.{◌≡◌, sym, ◌∙◌, ap, subst}
use mathlib.Core.Logic.{◌≢◌, ◌⊎◌, inl, inr, ⊎_elim}
use mathlib.Core.Bool.{Bool, true, true≢false}
use mathlib.Core.List.{List, [], ◌∷◌}
use Prim.Native.Nat.{ℕ, ◌+◌, ◌≤◌, ◌<◌, max}
use native.Mathlib.Decide.{ℕ_discrete, dec_le}
use native.Mathlib.Numerals.{add-one}
use native.Mathlib.Omega.{arith}
use lib.ListN.{get_or, set, drop}
use lib.Seq.{get_or-set_same, get_or-set_other}
use Rattle.fixpoint.specs.Interval.{Interval, Assign}
use Rattle.semantics.specs.Area.{line_at, top_of, conditions_of, count_of}
use Rattle.semantics.specs.Body.{line_body}
use Rattle.semantics.specs.Grade.{End, upper}
use Rattle.page.specs.Lines.{step_at, Next}
use Rattle.page.specs.Places.{place_of, LineIn, LineOf}
use Rattle.page.proofs.Head.{head_of}
use Rattle.page.proofs.LineNumbers.{line_in}
use Rattle.value.specs.Table.{EndTable}
use Rattle.value.specs.LineEnds.{LineEnd}
use Rattle.settle.proofs.Raising.{line_head}
use Rattle.unknowns.specs.NextHighs.{sought, Places, Steady, TakenLine, PassedLine, Looked, Above, Swept}
use Rattle.unknowns.proofs.Storing.{steady_on, steady_set}
use Rattle.page.specs.Solvable.{solvable}

-- the head of an F or R line is a condition
pub head_below : (a : List ℕ) → solvable a ≡ true → {c at : ℕ} → LineOf a c at → get_or a at 0 < conditions_of a
head_below a ok o = line_head a ok (line_in o)

-- an end of a line is a grade
pub end_small : (a : List ℕ) → solvable a ≡ true → {e : End} {values : List ℕ} {at v : ℕ} → LineEnd e a values at v → v ≤ 200
end_small a ok w = omega (arith, w.grade, (head_of a ok).top_most)

-- the places of the lines before line k
abbrev pub Passed : List ℕ → ℕ → ℕ → Type 0
Passed a k p = (j : ℕ) × (j < k) × (p ≡ place_of a j)

passed_more : (a : List ℕ) (k : ℕ) {at : ℕ} → at ≡ place_of a k → (p : ℕ) → Passed a (k + 1) p → Passed a k p ⊎ (p ≡ at)
passed_more a k e p (j, l, q) =
    elim (ℕ_discrete j k) [
      | yes z ↦ inr (q ∙ ap (place_of a) z ∙ sym e)
      | no z ↦ inl (j, omega arith, q)
    ]

-- one line more is seen: none of c, or one of c whose high end is v
module _ (a : List ℕ) (I : Assign) {Seen : ℕ → Type 0} {c x at : ℕ} (h : Above a I Seen c x) (Seen' : ℕ → Type 0) (s : (p : ℕ) → Seen' p → Seen p ⊎ (p ≡ at)) where
  pub above_passed : (LineOf a c at → ⊥) → Above a I Seen' c x
  above_passed n = record { some = h.some; most = λ p g o q z. ⊎_elim (λ k. h.most p k o q z) (λ k. absurd (n (rw k at o))) (s p g) }

  module _ (o : LineOf a c at) (w : Interval) (d : line_body (top_of a) I c (line_at (drop at a)) ≡ w ∷ []) {y : ℕ} (e : y ≡ max x (w.high + 1)) where
    mine : (p : ℕ) (q : Interval) → p ≡ at → line_body (top_of a) I c (line_at (drop p a)) ≡ q ∷ [] → q.high < y
    mine p q k z =
        let z' : line_body (top_of a) I c (line_at (drop at a)) ≡ q ∷ [] = rw k at z in
        let u : w ≡ q = cc in
        omega (arith, e, ap (λ (i : Interval). i.high) u)

    pub above_taken : Above a I Seen' c y
    above_taken =
        record {
          some = elim (dec_le x w.high) [
            | yes l ↦ inr (at, o, w, d, omega (arith, e))
            | no l ↦ subst (λ (y : ℕ). (y ≡ 0) ⊎ ((p : ℕ) × LineOf a c p × (q : Interval) × (line_body (top_of a) I c (line_at (drop p a)) ≡ q ∷ []) × (y ≡ q.high + 1))) {x = x} (omega (arith, e)) h.some
          ];
          most = λ p g l q z. ⊎_elim (λ k. omega (arith, e, h.most p k l q z)) (λ k. mine p q k z) (s p g);
        }

module _ (a : List ℕ) (m : List Bool) (values next₀ : List ℕ) where
  pub record Sweeping (next : List ℕ) (at k : ℕ) : Type 0 where
    pub sound : solvable a ≡ true
    pub places : Places a m next₀
    pub place : at ≡ place_of a k
    pub within : k ≤ count_of a
    pub steady : Steady a m next₀ next
    pub above : (I : Assign) → EndTable upper (top_of a) (conditions_of a) I values → (c : ℕ) → c < conditions_of a → sought a m c ≡ true → get_or next₀ c 0 ≡ 0
        → Above a I (Passed a k) c (get_or next c 0)

  module _ {next : List ℕ} {at k : ℕ} (v : Sweeping next at k) (l : k < count_of a) where
    pub here : LineIn a at
    here = record { number = k; in_count = l; place = v.place }

    real : get_or a at 0 < conditions_of a
    real = line_head a v.sound here

    module _ {at' k' : ℕ} (g : Next a at k at' k') where
      place' : at' ≡ place_of a k'
      unfolding place_of
      place' = g.place ∙ ap (λ (z : ℕ). z + step_at a z) v.place ∙ sym (ap (place_of a) (g.count ∙ add-one k))

      seen : (p : ℕ) → Passed a k' p → Passed a k p ⊎ (p ≡ at)
      seen p h = passed_more a k v.place p (subst (λ (i : ℕ). Passed a i p) g.count h)

      passed : {next' : List ℕ} → PassedLine a m at next next' → Sweeping next' at' k'
      passed {next'} t =
          rw t.same
          (record {
            sound = v.sound;
            places = v.places;
            place = place';
            within = omega (arith, g.count);
            steady = v.steady;
            above = λ I e c u r z. above_passed a I (v.above I e c u r z) (Passed a k') seen (λ o. true≢false (sym r ∙ t.not_here c o));
          })

      module _ {next' : List ℕ} (t : TakenLine a m values at next next') where
        x : ℕ
        x = max (get_or next (get_or a at 0) 0) (t.taken.high_end + 1)

        stored : next' ≡ set next (get_or a at 0) x
        unfolding x
        stored = t.taken.stored

        entry : (c : ℕ) → c ≢ get_or a at 0 → get_or next' c 0 ≡ get_or next c 0
        entry c z = ap (λ (i : List ℕ). get_or i c 0) stored ∙ get_or-set_other next (get_or a at 0) c x 0 z

        at_head : get_or next' (get_or a at 0) 0 ≡ x
        at_head = ap (λ (i : List ℕ). get_or i (get_or a at 0) 0) stored ∙ get_or-set_same next (get_or a at 0) x 0 (omega (arith, real, v.places.long, v.steady.same_length))

        above_head : (I : Assign) → EndTable upper (top_of a) (conditions_of a) I values → get_or next₀ (get_or a at 0) 0 ≡ 0 → Above a I (Passed a k') (get_or a at 0) (get_or next' (get_or a at 0) 0)
        unfolding x
        above_head I e z =
            let w = t.taken.high_is.is I e in
            above_taken a I (v.above I e (get_or a at 0) real t.head z) (Passed a k') seen t.here w.0 w.1 (omega (arith, at_head, w.2))

        taken : Sweeping next' at' k'
        taken =
            record {
              sound = v.sound;
              places = v.places;
              place = place';
              within = omega (arith, g.count);
              steady = steady_on a m v.steady (rw stored (steady_set a m next (get_or a at 0) x real t.head));
              above = λ I e c u r z. elim (ℕ_discrete c (get_or a at 0)) [
                | yes y ↦ subst (λ (c : ℕ). Above a I (Passed a k') c (get_or next' c 0)) (sym y) (above_head I e (rw y at z))
                | no y ↦ rw (entry c y) (above_passed a I (v.above I e c u r z) (Passed a k') seen (λ o. y (sym o.head)))
              ];
            }

      pub sweeping_next : {next' : List ℕ} → Looked a m values at next next' → Sweeping next' at' k'
      sweeping_next (inl t) = passed t
      sweeping_next (inr t) = taken t

  pub sweeping_last : {next : List ℕ} {at k : ℕ} → Sweeping next at k → count_of a ≤ k → Swept a m values next₀ next
  sweeping_last {next} {at} {k} v l =
      record {
        steady = v.steady;
        above = λ I e c u r z. let w = v.above I e c u r z in
            record { some = w.some; most = λ p g o. w.most p (o.number, omega (arith, o.in_count), o.place) o };
      }
