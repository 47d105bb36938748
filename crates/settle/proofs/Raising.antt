-- One line: what raising the end of its head leaves. Assumes nothing.
use mathlib.Core.Path.{◌≡◌, refl, sym, ◌∙◌, ap, subst}
use mathlib.Core.Logic.{◌≢◌}
use mathlib.Core.Bool.{Bool, true, false, true≢false, false≢true}
use mathlib.Core.List.{List, [], ◌∷◌}
use Prim.Native.Nat.{ℕ, zero, suc, ◌+◌, ◌*◌, ◌-◌, ◌≤◌, ◌<◌}
use native.Mathlib.Decide.{ℕ_discrete}
use native.Mathlib.Omega.{arith}
use lib.ListN.{length, get_or, set, take, drop, length-set}
use Rattle.fixpoint.specs.Interval.{Interval, Assign}
use Rattle.fixpoint.specs.System.{System}
use Rattle.fixpoint.proofs.Cond.{by_bool}
use Rattle.fixpoint.proofs.Sum.{sum_le, sum_drop}
use Rattle.semantics.specs.Area.{line_at, page_of, top_of, conditions_of, count_of}
use Rattle.semantics.specs.Body.{line_body, T, bodyless, unknown_by_default}
use Rattle.semantics.specs.Grade.{End, lower, upper}
use Rattle.semantics.specs.Page.{names}
use Rattle.semantics.specs.Table.{member}
use Rattle.semantics.proofs.Proper.{InRange, AllInRange}
use Rattle.semantics.proofs.Readings.{page_system}
use Rattle.page.specs.Places.{place_of, LineIn, LineOf}
use Rattle.page.proofs.Scan.{entry_head}
use Rattle.page.proofs.Scanning.{lines_left, lines_first, entry_ok}
use Rattle.page.proofs.LineNumbers.{scanning_at, lines_from, line_of}
use Rattle.value.specs.Table.{side, end_of, other, EndTable, Grades}
use Rattle.value.specs.LineEnds.{LineEnd}
use Rattle.value.proofs.BodyEnds.{body_most, body_has}
use Rattle.value.proofs.Defaults.{bodyless_low, bodyless_kept}
use Rattle.settle.specs.Ends.{reads, EndLocal, room}
use Rattle.settle.specs.declared.Figures.{Figures}
use Rattle.settle.specs.Figures.{FiguresOf}
use Rattle.settle.specs.Scratch.{base_of, table_of, held, stays_at, settled_at, room_at, Half, Steady, Covered, Raised, RestsAt}
use Rattle.settle.proofs.EndReads.{line_level, page_ends}
use Rattle.settle.proofs.Halves.{ends_in, end_in, settled_stays, below_T, settled_others, settled_T}
use Rattle.settle.proofs.Scratch.{end_at, base_in, part_is, half_table, half_grades, put_here, put_else, put_other, put_negated, put_rest, put_beyond}
use Rattle.page.specs.Solvable.{solvable}
use Rattle.page.proofs.Solvable.{solvable_proper}

module _ (a : List ℕ) (ok : solvable a ≡ true) where
  pub S : System (conditions_of a) (top_of a) (T (page_of a)) (names (page_of a))
  unfolding page_of
  S = page_system (page_of a) (solvable_proper a ok)

  pub E : EndLocal (conditions_of a) (T (page_of a)) (names (page_of a)) (reads (page_of a))
  unfolding page_of
  E = page_ends (page_of a) (solvable_proper a ok)

  -- every line is in range
  ranged_from : (k : ℕ) → k ≤ count_of a → AllInRange (top_of a) (conditions_of a) (lines_left a (place_of a k) k)
  unfolding page_of place_of
  ranged_from zero l = rw (lines_first a) (solvable_proper a ok).ranged
  ranged_from (suc k) l = (rw (lines_from a ok k (omega arith)) at (ranged_from k (omega arith))).1

  pub line_ranged : {at : ℕ} → LineIn a at → InRange (top_of a) (conditions_of a) (line_at (drop at a))
  line_ranged {at} s = rw s.place (rw (lines_from a ok s.number s.in_count) at (ranged_from s.number (omega (arith, s.in_count)))).0

  -- its head is a condition
  pub line_head : {at : ℕ} → LineIn a at → get_or a at 0 < conditions_of a
  line_head {at} s =
      subst (λ (i : ℕ). get_or a i 0 < conditions_of a) (sym s.place)
      (entry_head (top_of a) (conditions_of a) _ a (place_of a s.number) (entry_ok a (scanning_at a ok s.number (omega (arith, s.in_count))) s.in_count))

-- an end that does not fall leaves no more room
pub room_less : (e : End) (a s s' : List ℕ) → ((c : ℕ) → c < conditions_of a → end_of e (held (conditions_of a) s c) ≤ end_of e (held (conditions_of a) s' c)) → room_at e a s' ≤ room_at e a s
unfolding room
room_less e a s s' h = sum_le (conditions_of a) _ _ (λ c l. omega (arith, h c l))

pub steady_same : (e : End) (a : List ℕ) (m : List Bool) (s : List ℕ) → Steady e a m s s
steady_same e a m s =
    record { same_length = refl; others = λ c l. refl; apart = λ c l r. refl; stayed = λ c l f. refl; rises = λ c l. omega arith; negations = λ c l. refl; beyond = refl }

pub steady_on : {e : End} {a : List ℕ} {m : List Bool} {s s' s'' : List ℕ} → Steady e a m s s' → Steady e a m s' s'' → Steady e a m s s''
steady_on u v =
    record {
      same_length = v.same_length ∙ u.same_length;
      others = λ c l. v.others c l ∙ u.others c l;
      apart = λ c l r. v.apart c l r ∙ u.apart c l r;
      stayed = λ c l f. v.stayed c l f ∙ u.stayed c l f;
      rises = λ c l. omega (arith, u.rises c l, v.rises c l);
      negations = λ c l. v.negations c l ∙ u.negations c l;
      beyond = v.beyond ∙ u.beyond;
    }

-- a condition without lines has no end but one that stays
bodyless_end : (e : End) (a : List ℕ) (c : ℕ) → stays_at e a c ≡ false → end_of e (bodyless (page_of a) c) ≡ 0
bodyless_end lower a c f = bodyless_low a c
bodyless_end upper a c f = ap (λ (p : Interval). p.high) (bodyless_kept a c f)

-- whoever has an end that stays rests, and so does whoever no line gives more than it holds
module _ {e : End} {a : List ℕ} {m : List Bool} {s : List ℕ} (ok : solvable a ≡ true) (H : Half e a m s) (c : ℕ) (l : c < conditions_of a) (r : member m c ≡ true) where
  pub T_below : end_of e (T (page_of a) (held (conditions_of a) s) c) ≤ settled_at e a s c
  unfolding page_of
  T_below =
      below_T (S a ok) (E a ok) (unknown_by_default (page_of a)) e (held (conditions_of a) s) H.within (held (conditions_of a) s) (λ b i. refl) H.below c l
      (H.capped c l r)

  pub rests_by : ((j : ℕ) → j < count_of a → (p : Interval) → line_body (top_of a) (held (conditions_of a) s) c (line_at (drop (place_of a j) a)) ≡ p ∷ [] → end_of e p ≤ end_of e (held (conditions_of a) s c))
      → RestsAt e a s c
  unfolding page_of
  rests_by b =
      by_bool (stays_at e a c)
      (λ f. omega (arith, T_below, settled_stays (conditions_of a) (top_of a) (T (page_of a)) (unknown_by_default (page_of a)) e (held (conditions_of a) s) c f))
      (λ f. body_most e a ok (held (conditions_of a) s) c (end_of e (held (conditions_of a) s c)) b (λ z. omega (arith, bodyless_end e a c f)))

-- the line at a place
module _ {a : List ℕ} {at : ℕ} (x : LineIn a at) where
  -- whatever it adds, it adds to its head, as an F or R line
  pub added_to : (I : Assign) (c : ℕ) (p : Interval) → line_body (top_of a) I c (line_at (drop at a)) ≡ p ∷ [] → LineOf a c at
  added_to I c p d =
      subst (LineOf a c) (sym x.place)
      (line_of (top_of a) I c a x.number x.in_count (subst (λ (i : ℕ). line_body (top_of a) I c (line_at (drop i a)) ≡ p ∷ []) x.place d))

  pub line_here : get_or a (at + 1) 0 ≤ 5 → LineOf a (get_or a at 0) at
  line_here l = record { number = x.number; in_count = x.in_count; place = x.place; head = refl; body = l }

  -- v is an end of it at an assignment: it adds one interval with that end, and T makes no less of its head
  module _ {e : End} {values : List ℕ} {v : ℕ} (w : LineEnd e a values at v) (I : Assign) (t : EndTable e (top_of a) (conditions_of a) I values) where
    pub adds_v : (c : ℕ) (p : Interval) → line_body (top_of a) I c (line_at (drop at a)) ≡ p ∷ [] → (c ≡ get_or a at 0) × (end_of e p ≡ v)
    adds_v c p d =
        let q = w.is I t in
        let z : get_or a at 0 ≡ c = (added_to I c p d).head in
        let y : line_body (top_of a) I (get_or a at 0) (line_at (drop at a)) ≡ p ∷ [] = rw z d in
        let o : q.0 ≡ p = cc in
        (sym z, ap (end_of e) (sym o) ∙ sym q.2)

    pub v_under : solvable a ≡ true → v ≤ end_of e (T (page_of a) I (get_or a at 0))
    v_under ok =
        let q = w.is I t in
        let d = subst (λ (i : ℕ). line_body (top_of a) I (get_or a at 0) (line_at (drop i a)) ≡ q.0 ∷ []) x.place q.1 in
        omega (arith, q.2, body_has e a ok I (get_or a at 0) x.number x.in_count q.0 d)

-- the line at a place, whose head is h
module _ (e : End) (a : List ℕ) (m : List Bool) (s : List ℕ) (at : ℕ) (ok : solvable a ≡ true) (H : Half e a m s) (x : LineIn a at) where
  abbrev h : ℕ
  h = get_or a at 0

  abbrev n : ℕ
  n = conditions_of a

  -- nothing is done: it is no F or R line, its head is not reached, or it adds no more than its head holds
  nothing_done : Covered e a m s s at → Raised e a m at s s false
  nothing_done v =
      record {
        half = H;
        steady = steady_same e a m s;
        still = λ z. refl;
        moves = λ z. absurd (false≢true z);
        covered = v;
        only = λ c l d. refl;
      }

  pub raised_query : 5 < get_or a (at + 1) 0 → Raised e a m at s s false
  raised_query q = nothing_done (λ c l r g p d. absurd (omega (arith, (added_to x (held n s) c p d).body)))

  pub raised_apart : member m h ≡ false → Raised e a m at s s false
  raised_apart q = nothing_done (λ c l r g p d. absurd (true≢false (sym r ∙ ap (member m) (sym (added_to x (held n s) c p d).head) ∙ q)))

  module _ {v : ℕ} (w : LineEnd e a (table_of n e s) at v) where
    adds : (c : ℕ) (p : Interval) → line_body (top_of a) (held n s) c (line_at (drop at a)) ≡ p ∷ [] → (c ≡ h) × (end_of e p ≡ v)
    adds = adds_v x w (held n s) (half_table H)

    pub raised_not : v ≤ end_of e (held n s h) → Raised e a m at s s false
    raised_not m = nothing_done (λ c l r g p d. let y = adds c p d in rw y.0 (omega (arith, y.1)))

    -- the end of the head becomes v
    module _ (real : h < n) (reached : member m h ≡ true) (over : end_of e (held n s h) < v) where
      abbrev s' : List ℕ
      s' = set s (base_of n e + 2 * h) v

      v_below : v ≤ settled_at e a s h
      v_below = omega (arith, v_under x w (held n s) (half_table H) ok, T_below ok H h real reached)

      -- so its end is none that stays
      goes : stays_at e a h ≡ true → ⊥
      unfolding page_of
      goes f = omega (arith, v_below, settled_stays n (top_of a) (T (page_of a)) (unknown_by_default (page_of a)) e (held n s) h f)

      to_others : (c : ℕ) → c < n → end_of (other e) (held n s' c) ≡ end_of (other e) (held n s c)
      to_others = put_other n s h v H.long real e

      by_head : (P : ℕ → Type 0) → P h → ((c : ℕ) → c < n → c ≢ h → P c) → (c : ℕ) → c < n → P c
      by_head P f g c l =
          elim (ℕ_discrete c h) [
            | yes z ↦ subst P (sym z) f
            | no z ↦ g c l z
          ]

      here : end_of e (held n s' h) ≡ v
      here = put_here n s h v H.long real e

      else' : (c : ℕ) → c ≢ h → end_of e (held n s' c) ≡ end_of e (held n s c)
      else' = put_else n s h v H.long real e

      stayed' : (c : ℕ) → c < n → stays_at e a c ≡ true → end_of e (held n s' c) ≡ end_of e (held n s c)
      stayed' c l f = else' c (λ z. goes (subst (λ (b : ℕ). stays_at e a b ≡ true) z f))

      settled_same : (c : ℕ) → c < n → settled_at e a s' c ≡ settled_at e a s c
      settled_same c l = settled_others (S a ok) (E a ok) (unknown_by_default (page_of a)) e (held n s') (held n s) to_others stayed' c l

      rises' : (c : ℕ) → c < n → end_of e (held n s c) ≤ end_of e (held n s' c)
      rises' = by_head (λ c. end_of e (held n s c) ≤ end_of e (held n s' c)) (omega (arith, here)) (λ c l z. omega (arith, else' c z))

      half' : Half e a m s'
      half' =
          record {
            long = rw length-set H.long;
            marked = H.marked;
            shut = H.shut;
            within = λ c l. ends_in e (held n s' c)
                (by_head (λ c. end_of e (held n s' c) ≤ top_of a) (omega (arith, here, w.grade)) (λ c l z. omega (arith, else' c z, end_in e (held n s c) (H.within c l))) c l)
                (subst (λ (k : ℕ). k ≤ top_of a) (sym (to_others c l)) (end_in (other e) (held n s c) (H.within c l)));
            negated = λ c l. put_negated n s h v H.long real e c ∙ H.negated c l ∙ ap (λ (k : ℕ). top_of a - k) (sym (to_others c l));
            below = λ c l. by_head (λ c. end_of e (held n s' c) ≤ settled_at e a s' c) (omega (arith, here, v_below, settled_same h real)) (λ c l z. omega (arith, else' c z, settled_same c l, H.below c l)) c l;
            capped = λ c l r f. omega (
              arith,
              ap (end_of e) (settled_T (S a ok) (E a ok) (unknown_by_default (page_of a)) e (held n s') (held n s) to_others stayed' c l),
              H.capped c l r f,
              stayed' c l f,
            );
          }

      steady' : Steady e a m s s'
      steady' =
          record {
            same_length = length-set s (base_of n e + 2 * h) v;
            others = to_others;
            apart = λ c l r. else' c (λ z. true≢false (sym reached ∙ sym (ap (member m) z) ∙ r));
            stayed = stayed';
            rises = rises';
            negations = put_rest n s h v H.long real e;
            beyond = put_beyond n s h v H.long real e;
          }

      moves' : room_at e a s' < room_at e a s
      unfolding room
      moves' =
          omega (
            arith,
            sum_drop n (λ c. top_of a - end_of e (held n s' c)) (λ c. top_of a - end_of e (held n s c)) 1 h real (λ c l z. omega (arith, rises' c l)) (omega (arith, here, over, w.grade)),
          )

      covered' : Covered e a m s s' at
      covered' c l r g p d =
          let q = line_level n (top_of a) e (held n s') (held n s) (line_at (drop at a)) (line_ranged a ok x) c g to_others d in
          let y = adds c q.0 q.1 in
          rw y.0 (omega (arith, q.2, y.1, here))

      pub raised_up : Raised e a m at s s' true
      raised_up =
          record {
            half = half';
            steady = steady';
            still = λ z. absurd (true≢false z);
            moves = λ z. moves';
            covered = covered';
            only = λ c l z. else' c (λ q. z (sym q));
          }

-- in the code's own terms: by the figures of the page, with d as the head
module _ {a : List ℕ} {m : List Bool} {s : List ℕ} {f : Figures} {at : ℕ} (ok : solvable a ≡ true) (r : Half (side f.end) a m s × FiguresOf a f × LineIn a at) where
  abbrev e : End
  e = side f.end

  begins : f.base ≡ base_of (conditions_of a) e
  begins = r.1.begins ∙ ap (λ (i : ℕ). base_of i e) r.1.size

  abbrev part : List ℕ
  part = take (f.base + 2 * f.n - f.base) (drop f.base s)

  part_table : part ≡ table_of (conditions_of a) e s
  part_table = ap (λ (i : ℕ). take (f.base + 2 * i - f.base) (drop f.base s)) r.1.size ∙ part_is (conditions_of a) s e f.base begins

  pub part_grades : Grades (top_of a) (conditions_of a) part
  part_grades = rw part_table (half_grades r.0)

  module _ {d : ℕ} (z : d ≡ get_or a at 0) where
    pub mark_in : d < length m
    mark_in = omega (arith, z, line_head a ok r.2, r.0.marked)

    pub place_in : f.base + 2 * d < length s
    place_in = omega (arith, z, line_head a ok r.2, begins, base_in (conditions_of a) e, r.0.long)

    pub apart_here : member m d ≡ false → Raised e a m at s s false
    apart_here q = raised_apart e a m s at ok r.0 r.2 (rw (← z) q)

    module _ {v : ℕ} (w : LineEnd e a part at v) where
      on_table : LineEnd e a (table_of (conditions_of a) e s) at v
      on_table = rw part_table at w

      held_is : end_of e (held (conditions_of a) s (get_or a at 0)) ≡ get_or s (f.base + 2 * d) 0
      held_is = end_at (conditions_of a) s e (get_or a at 0) ∙ rw (begins, z) refl

      pub kept_here : v ≤ get_or s (f.base + 2 * d) 0 → Raised e a m at s s false
      kept_here l = raised_not e a m s at ok r.0 r.2 on_table (omega (arith, held_is, l))

      pub raised_here : member m d ≡ true → get_or s (f.base + 2 * d) 0 < v → Raised e a m at s (set s (f.base + 2 * d) v) true
      raised_here q l = rw (begins, z) (raised_up e a m s at ok r.0 r.2 on_table (line_head a ok r.2) (rw (← z) q) (omega (arith, held_is, l)))
