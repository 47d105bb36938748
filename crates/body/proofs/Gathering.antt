-- The largest ends over the lines of a condition that are seen, in any order: what a scan and a loop over a group have in common. Assumes nothing.
use mathlib.Core.Path.{◌≡◌, refl, sym, ◌∙◌, ap, subst}
use mathlib.Core.Logic.{◌⊎◌, inl, inr, ⊎_elim}
use mathlib.Core.Bool.{true}
use mathlib.Core.List.{List, [], ◌∷◌}
use Prim.Native.Nat.{ℕ, ◌+◌, ◌≤◌, ◌<◌, max}
use native.Mathlib.Decide.{ℕ_discrete}
use native.Mathlib.Omega.{arith}
use lib.ListN.{length, get_or, drop}
use Rattle.fixpoint.specs.Interval.{Interval, Assign}
use Rattle.fixpoint.proofs.KnowledgeOrder.{pair_eq}
use Rattle.semantics.specs.Area.{page_of, top_of, conditions_of, count_of, line_at}
use Rattle.semantics.specs.Body.{line_body, bodyless, T}
use Rattle.semantics.specs.Grade.{End, lower, upper}
use Rattle.page.specs.Places.{place_of, LineIn, LineOf}
use Rattle.page.proofs.LineNumbers.{shape, line_of, adds_one}
use Rattle.std.specs.Prelude.{Option, None, Some}
use Rattle.value.specs.declared.Ends.{Ends}
use Rattle.value.specs.Table.{end_of, EndTable}
use Rattle.value.specs.LineEnds.{LineEnd}
use Rattle.value.proofs.BodyEnds.{body_some, body_has, body_none}
use Rattle.value.proofs.Defaults.{bodyless_in}
use Rattle.ends.specs.Mirror.{mirrored}
use Rattle.index.specs.Lookup.{LinesAre}
use Rattle.body.specs.Body.{so_far, Taken, Largest, BestOf, Body}
use Rattle.page.specs.Solvable.{solvable}

-- an F or R line is one of its head
pub here_line : {a : List ℕ} {c at : ℕ} → LineIn a at → get_or a at 0 ≡ c → get_or a (at + 1) 0 ≤ 5 → LineOf a c at
here_line h e b = record { number = h.number; in_count = h.in_count; place = h.place; head = e; body = b }

-- one end over the places seen
module _ (e : End) (a values : List ℕ) (c : ℕ) where
  pub record Seeing (Seen : ℕ → Type 0) (best : ℕ) : Type 0 where
    pub grade : best ≤ top_of a
    pub reached : (I : Assign) → EndTable e (top_of a) (conditions_of a) I values → best ≤ end_of e (T (page_of a) I c)
    pub covers : (I : Assign) → EndTable e (top_of a) (conditions_of a) I values → (p : ℕ) → Seen p → LineOf a c p → (q : Interval)
        → line_body (top_of a) I c (line_at (drop p a)) ≡ q ∷ [] → end_of e q ≤ best

  module _ {Seen : ℕ → Type 0} {best : ℕ} (b : Seeing Seen best) where
    -- a line that is not one of c, and one that is
    seeing_passed : (Seen' : ℕ → Type 0) {best' at : ℕ} → (LineOf a c at → ⊥) → best' ≡ best → ((p : ℕ) → Seen' p → Seen p ⊎ (p ≡ at)) → Seeing Seen' best'
    seeing_passed Seen' n z s =
        rw z
        (record {
          grade = b.grade;
          reached = b.reached;
          covers = λ I t p h o. ⊎_elim (λ k. b.covers I t p k o) (λ k. absurd (n (rw k at o))) (s p h);
        })

    module _ (ok : solvable a ≡ true) (Seen' : ℕ → Type 0) {best' at x : ℕ} (o : LineOf a c at) (v : LineEnd e a values at x) (m : best' ≡ max best x) (s : (p : ℕ) → Seen' p → Seen p ⊎ (p ≡ at)) where
      -- what the line adds
      adds : (I : Assign) → EndTable e (top_of a) (conditions_of a) I values → (p : Interval) × (line_body (top_of a) I c (line_at (drop at a)) ≡ p ∷ []) × (x ≡ end_of e p)
      adds I t = let w = v.is I t in (w.0, rw o.head at w.1, w.2)

      seeing_taken : Seeing Seen' best'
      seeing_taken =
          record {
            grade = omega (arith, b.grade, v.grade);
            reached = λ I t.
                let w = adds I t in
                let q = subst (λ (z : ℕ). line_body (top_of a) I c (line_at (drop z a)) ≡ w.0 ∷ []) o.place w.1 in
                omega (arith, b.reached I t, w.2, body_has e a ok I c o.number o.in_count w.0 q);
            covers = λ I t p h l q z. ⊎_elim (λ k. omega (arith, b.covers I t p k l q z)) (λ k. mine I t p q k z) (s p h);
          }
        where
          mine : (I : Assign) → EndTable e (top_of a) (conditions_of a) I values → (p : ℕ) (q : Interval) → p ≡ at → line_body (top_of a) I c (line_at (drop p a)) ≡ q ∷ [] → end_of e q ≤ best'
          mine I t p q k z =
              let w = adds I t in
              let z' : line_body (top_of a) I c (line_at (drop at a)) ≡ q ∷ [] = rw k at z in
              let y : w.0 ≡ q = cc in
              omega (arith, w.2, ap (end_of e) y)

  seeing_last : {Seen : ℕ → Type 0} {best : ℕ} → Seeing Seen best → ((p : ℕ) → LineOf a c p → Seen p) → Largest e a values c best
  seeing_last b s = record { grade = b.grade; reached = b.reached; covers = λ I t p o. b.covers I t p (s p o) o }

-- both ends, and whether a line is found
module _ (a values : List ℕ) (c : ℕ) where
  pub record Gathering (Seen : ℕ → Type 0) (best : Option Ends) : Type 0 where
    pub low_end : Seeing lower a values c Seen (so_far best).low
    pub high_end : Seeing upper a (mirrored (top_of a) values) c Seen (so_far best).high
    pub none : best ≡ None → (p : ℕ) → Seen p → LineOf a c p → ⊥
    pub some : {e : Ends} → best ≡ Some e → (p : ℕ) × LineOf a c p

  -- a line that is not looked at, since it is of another head
  pub gathering_skip : {Seen : ℕ → Type 0} (Seen' : ℕ → Type 0) {best : Option Ends} → Gathering Seen best → {at : ℕ} → (get_or a at 0 ≡ c → ⊥)
      → ((p : ℕ) → Seen' p → Seen p ⊎ (p ≡ at)) → Gathering Seen' best
  gathering_skip Seen' g {at} n s =
      record {
        low_end = seeing_passed _ _ _ _ g.low_end Seen' (λ o. n o.head) refl s;
        high_end = seeing_passed _ _ _ _ g.high_end Seen' (λ o. n o.head) refl s;
        none = λ e p h o. ⊎_elim (λ k. g.none e p k o) (λ k. n (rw k at o.head)) (s p h);
        some = g.some;
      }

  pub gathering_next : solvable a ≡ true → {Seen : ℕ → Type 0} (Seen' : ℕ → Type 0) {best best' : Option Ends} {at : ℕ} → Gathering Seen best → Taken a values c at best best'
      → ((p : ℕ) → Seen' p → Seen p ⊎ (p ≡ at)) → Gathering Seen' best'
  gathering_next ok Seen' g (inl t) s =
      record {
        low_end = seeing_passed _ _ _ _ g.low_end Seen' t.not_here (ap (λ (o : Option Ends). (so_far o).low) t.same) s;
        high_end = seeing_passed _ _ _ _ g.high_end Seen' t.not_here (ap (λ (o : Option Ends). (so_far o).high) t.same) s;
        none = λ e p h o. ⊎_elim (λ k. g.none (sym t.same ∙ e) p k o) (λ k. t.not_here (rw k at o)) (s p h);
        some = λ e. g.some (sym t.same ∙ e);
      }
  gathering_next ok Seen' {at = at} g (inr t) s =
      record {
        low_end = seeing_taken _ _ _ _ g.low_end ok Seen' t.here t.low_is (ap (λ (o : Option Ends). (so_far o).low) t.most) s;
        high_end = seeing_taken _ _ _ _ g.high_end ok Seen' t.here t.high_is (ap (λ (o : Option Ends). (so_far o).high) t.most) s;
        none = λ e p h o. let q = t.most in cc;
        some = λ e. (at, t.here);
      }

  pub gathering_last : {Seen : ℕ → Type 0} (best : Option Ends) → Gathering Seen best → ((p : ℕ) → LineOf a c p → Seen p) → BestOf a values c best
  gathering_last None g s = λ p o. g.none refl p (s p o) o
  gathering_last (Some e) g s = record { low_end = seeing_last _ _ _ _ g.low_end s; high_end = seeing_last _ _ _ _ g.high_end s; some = g.some refl }

-- the places of the lines passed by a scan, and the first k of a list
abbrev pub Passed : List ℕ → ℕ → ℕ → Type 0
Passed a k p = (j : ℕ) × (j < k) × (p ≡ place_of a j)

abbrev pub Listed : List ℕ → (k p : ℕ) → Type 0
Listed places k p = (j : ℕ) × (j < k) × (get_or places j 0 ≡ p)

pub passed_more : (a : List ℕ) (k : ℕ) {at : ℕ} → at ≡ place_of a k → (p : ℕ) → Passed a (k + 1) p → Passed a k p ⊎ (p ≡ at)
passed_more a k e p (j, l, q) =
    elim (ℕ_discrete j k) [
      | yes z ↦ inr (q ∙ ap (place_of a) z ∙ sym e)
      | no z ↦ inl (j, omega arith, q)
    ]

pub passed_all : (a : List ℕ) (c k : ℕ) → count_of a ≤ k → (p : ℕ) → LineOf a c p → Passed a k p
passed_all a c k l p o = (o.number, omega (arith, o.in_count), o.place)

pub listed_more : (places : List ℕ) (k p : ℕ) → Listed places (k + 1) p → Listed places k p ⊎ (p ≡ get_or places k 0)
listed_more places k p (j, l, q) =
    elim (ℕ_discrete j k) [
      | yes z ↦ inr (sym q ∙ ap (λ (i : ℕ). get_or places i 0) z)
      | no z ↦ inl (j, omega arith, q)
    ]

pub listed_all : {a places : List ℕ} {c : ℕ} (k : ℕ) → LinesAre a c places → length places ≤ k → (p : ℕ) → LineOf a c p → Listed places k p
listed_all k g l p o = let w = g.every p o in (w.0, omega (arith, w.1), w.2)

-- the body value, where a line is found and where none is
module _ (a values : List ℕ) (c : ℕ) (ok : solvable a ≡ true) where
  module _ {best : Ends} (b : BestOf a values c (Some best)) where
    most : (e : End) (table : List ℕ) {best : ℕ} → Largest e a table c best → (I : Assign) → EndTable e (top_of a) (conditions_of a) I table → best ≡ end_of e (T (page_of a) I c)
    most e table {best} v I t =
        let o = b.some.1 in
        let w = adds_one (top_of a) I c a o in
        let d = subst (λ (k : ℕ). line_body (top_of a) I c (line_at (drop k a)) ≡ w.0 ∷ []) o.place w.1 in
        let h = body_some e a ok I c best (λ j l p q. v.covers I t (place_of a j) (line_of (top_of a) I c a j l q) p q) o.number o.in_count w.0 d in
        omega (arith, v.reached I t)

    pub body_found : Body a values c best.low best.high
    body_found =
        record {
          low_in = b.low_end.grade;
          high_in = b.high_end.grade;
          is = λ I t u. pair_eq (most lower values b.low_end I t) (most upper (mirrored (top_of a) values) b.high_end I u);
        }

  pub body_empty : BestOf a values c None → {l h : ℕ} → record { low = l; high = h } ≡ bodyless (page_of a) c → Body a values c l h
  body_empty b q =
      record {
        low_in = omega (arith, ap (λ (i : Interval). i.low) q, bodyless_in a c lower);
        high_in = omega (arith, ap (λ (i : Interval). i.high) q, bodyless_in a c upper);
        is = λ I t u. q ∙ sym (body_none a ok I c (λ j l. ⊎_elim (λ z. z) (λ z. absurd (b (place_of a j) (line_of (top_of a) I c a j l z.1))) (shape (top_of a) I c (line_at (drop (place_of a j) a)))));
      }
