-- A run area longer than 3 × C: the calls work on its first 3 × C numbers and leave the others. So what is lent to a call may be the shared
-- area from the stall's beginning on. Assumes nothing.
use mathlib.Core.Path.{◌≡◌, refl, sym, ◌∙◌, ap, ap₂}
use mathlib.Core.Bool.{Bool, true, false, ◌&&◌}
use mathlib.Core.List.{List, [], ◌∷◌, ◌++◌, append-nil}
use mathlib.Core.Option.{Option, none, some}
use Prim.Native.Nat.{ℕ, zero, suc, ◌+◌, ◌-◌, ◌*◌, ◌≤◌, ◌<◌}
use native.Mathlib.Omega.{arith}
use lib.Dec.{eqb, leb}
use lib.ListN.{length, take, drop, length-drop, take-append-drop, drop_of_length-le}
use lib.Seq.{length-take-le, take_all, get_or-take, ext_get_or, drop-drop}
use borrow.Author.Tests.{le-leb}
use borrow.Rule.Slice.PartMut.{put_mid}
use Rattle.fixpoint.specs.Interval.{Interval}
use Rattle.semantics.specs.Area.{sound, page_of, every}
use Rattle.semantics.specs.Call.{Call, evaluate, drive, Answer, cause, first_of, Outcome, outcome}
use Rattle.semantics.specs.Operation.{query_causes, Opening, Opened, open_as, open_of, Left, left_as, run_causes, operation, drive_of, evaluate_of}
use Rattle.semantics.specs.Page.{Page}
use Rattle.semantics.specs.Reading.{closure, pass_count}
use Rattle.semantics.specs.RunArea.{interval_at, mark_at, run_of, worklist_of, reached_of, cell_tests, run_sound}
use Rattle.semantics.specs.Table.{table, all_below}
use Rattle.semantics.specs.Worklist.{Worklist, start}
use Rattle.semantics.proofs.Table.{length_from, get_d_table}
use Rattle.semantics.specs.Stalls.{Stall, run_length, shared_length, beginning, part_of, with_part, open_stall, evaluate_stall}
use Rattle.semantics.proofs.StallsParts.{fits}
use Rattle.index.proofs.Lent.{put_rest}
use Rattle.run.specs.Answers.{Answered, Drives}
use Rattle.stalls.specs.Answers.{PartDrives}
use Rattle.stalls.proofs.Refusals.{open_none, evaluate_none}

table_same : {A : Type 0} (d : A) (n : ℕ) (f g : ℕ → A) → ((i : ℕ) → i < n → f i ≡ g i) → table n f ≡ table n g
table_same d n f g h =
    ext_get_or d (table n f) (table n g) (length_from n 0 f ∙ sym (length_from n 0 g))
    (λ i l. let k : i < n = omega (arith, length_from n 0 f) in get_d_table n f i d k ∙ h i k ∙ sym (get_d_table n g i d k))

all_same : (n : ℕ) (p q : ℕ → Bool) → ((i : ℕ) → i < n → p i ≡ q i) → all_below n p ≡ all_below n q
unfolding all_below
all_same zero p q h = refl
all_same (suc n) p q h = ap₂ ◌&&◌ (all_same n p q (λ i l. h i (omega arith))) (h n (omega arith))

module _ (page : Page) (r : List ℕ) (long : run_length page ≤ length r) where
  abbrev n : ℕ
  n = run_length page

  abbrev front : List ℕ
  front = take n r

  front_length : length front ≡ n
  front_length = length-take-le n r long

  nothing_past : drop n front ≡ []
  nothing_past = drop_of_length-le front {i = n} (omega (arith, front_length))

  front_held : (c : ℕ) → c < page.conditions → interval_at r c ≡ interval_at front c
  front_held c l =
      ap₂ (λ (x y : ℕ). let p : Interval = record { low = x; high = y } in p)
      (sym (get_or-take n r (3 * c) 0 (omega arith))) (sym (get_or-take n r (3 * c + 1) 0 (omega arith)))

  front_mark : (c : ℕ) → c < page.conditions → mark_at r c ≡ mark_at front c
  front_mark c l = sym (get_or-take n r (3 * c + 2) 0 (omega arith))

  front_state : worklist_of page r ≡ worklist_of page front
  unfolding worklist_of
  front_state =
      ap₂ {C = Worklist} (λ x y. record { intervals = x; waiting = y })
      (table_same (record { low = 0; high = 0 }) page.conditions (interval_at r) (interval_at front) front_held)
      (table_same false page.conditions (λ c. eqb (mark_at r c) 2) (λ c. eqb (mark_at front c) 2) (λ c l. ap (λ (k : ℕ). eqb k 2) (front_mark c l)))

  front_reached : reached_of page r ≡ reached_of page front
  unfolding reached_of
  front_reached =
      table_same false page.conditions (λ c. leb 1 (mark_at r c)) (λ c. leb 1 (mark_at front c)) (λ c l. ap (λ (k : ℕ). leb 1 k) (front_mark c l))

  front_sound : run_sound page r ≡ run_sound page front
  unfolding run_sound
  front_sound =
      ap₂ ◌&&◌ (le-leb n (length r) long ∙ sym (le-leb n (length front) (omega (arith, front_length))))
      (all_same page.conditions (λ c. every (cell_tests page.top (interval_at r c) (mark_at r c))) (λ c. every (cell_tests page.top (interval_at front c) (mark_at front c)))
      (λ c l. ap₂ (λ (p : Interval) (k : ℕ). every (cell_tests page.top p k)) (front_held c l) (front_mark c l)))

  -- where nothing lies past the front, all that is left is what is written
  put_front : (x : List ℕ) → x ++ drop n r ≡ (x ++ drop n front) ++ drop n r
  put_front x = ap (λ (l : List ℕ). l ++ drop n r) (sym (ap (λ (l : List ℕ). x ++ l) nothing_past ∙ append-nil x))

module _ (a r : List ℕ) (long : run_length (page_of a) ≤ length r) where
  pub operation_front : (c : Call)
      → operation a r c
      ≡ record { answer = (operation a (take (run_length (page_of a)) r) c).answer; run = (operation a (take (run_length (page_of a)) r) c).run ++ drop (run_length (page_of a)) r }
  unfolding operation
  operation_front c =
      rw (front_state (page_of a) r long, front_reached (page_of a) r long, front_sound (page_of a) r long)
      (go (first_of (run_causes a (front (page_of a) r long))))
    where
      p : List ℕ
      p = take (run_length (page_of a)) r

      d : Outcome
      d = outcome (page_of a) (reached_of (page_of a) p) (worklist_of (page_of a) p) c

      go : (o : Option ℕ) → left_as o (page_of a) r d ≡ record { answer = (left_as o (page_of a) p d).answer; run = (left_as o (page_of a) p d).run ++ drop (run_length (page_of a)) r }
      go (some k) = ap (λ (l : List ℕ). record { answer = (left_as (some k) (page_of a) p d).answer; run = l }) (sym (take-append-drop (run_length (page_of a)) r))
      go none =
          ap (λ (l : List ℕ). record { answer = d.answer; run = l })
          (ap (λ (m : List Bool). run_of (page_of a) m d.state ++ drop (run_length (page_of a)) r) (front_reached (page_of a) r long)
          ∙ put_front (page_of a) r long (run_of (page_of a) (reached_of (page_of a) p) d.state))

  pub open_front : (qs : List ℕ)
      → open_of a qs r
      ≡ record { answer = (open_of a qs (take (run_length (page_of a)) r)).answer; run = (open_of a qs (take (run_length (page_of a)) r)).run ++ drop (run_length (page_of a)) r }
  unfolding open_of
  open_front qs = rw (le-leb (run_length (page_of a)) (length r) long, le-leb (run_length (page_of a)) (length p) (omega (arith, front_length (page_of a) r long))) (go (first_of (query_causes a qs ++ (cause false 13 ∷ []))))
    where
      p : List ℕ
      p = take (run_length (page_of a)) r

      opens : Option ℕ → List ℕ → Opened
      opens o x = open_as o (page_of a) (closure (page_of a) qs) (pass_count (page_of a) qs) x

      go : (o : Option ℕ)
          → opens o r ≡ record { answer = (opens o p).answer; run = (opens o p).run ++ drop (run_length (page_of a)) r }
      go (some k) = ap (λ (l : List ℕ). record { answer = (opens (some k) p).answer; run = l }) (sym (take-append-drop (run_length (page_of a)) r))
      go none =
          ap (λ (l : List ℕ). record { answer = (opens none p).answer; run = l })
          (put_front (page_of a) r long (run_of (page_of a) (closure (page_of a) qs) (start (page_of a) (closure (page_of a) qs))))

-- the shared area lent on from the stall's beginning
module _ (a : List ℕ) (s : Stall) (area : List ℕ) (long : shared_length (page_of a) ≤ length area) where
  abbrev at : ℕ
  at = beginning (page_of a) s

  tail_long : run_length (page_of a) ≤ length (drop at area)
  tail_long = omega (arith, length-drop at area, fits (page_of a) s)

  put_back : (x : List ℕ) → take at area ++ (x ++ drop (run_length (page_of a)) (drop at area)) ≡ with_part (page_of a) s area x
  unfolding with_part
  put_back x = ap (λ (l : List ℕ). take at area ++ (x ++ l)) (drop-drop (run_length (page_of a)) at area)

  -- answers as on the part alone, and leaves the area with that part put back
  pub operation_lent : (c : Call)
      → ((operation a (drop (beginning (page_of a) s) area) c).answer ≡ (operation a (part_of (page_of a) s area) c).answer)
      × (take (beginning (page_of a) s) area ++ (operation a (drop (beginning (page_of a) s) area) c).run ≡ with_part (page_of a) s area (operation a (part_of (page_of a) s area) c).run)
  unfolding part_of
  operation_lent c =
      let e = operation_front a (drop at area) tail_long c in
      (ap (λ (l : Left). l.answer) e, ap (λ (l : Left). take at area ++ l.run) e ∙ put_back (operation a (take (run_length (page_of a)) (drop at area)) c).run)

  pub open_lent : (qs : List ℕ)
      → ((open_of a qs (drop (beginning (page_of a) s) area)).answer ≡ (open_of a qs (part_of (page_of a) s area)).answer)
      × (take (beginning (page_of a) s) area ++ (open_of a qs (drop (beginning (page_of a) s) area)).run ≡ with_part (page_of a) s area (open_of a qs (part_of (page_of a) s area)).run)
  unfolding part_of
  open_lent qs =
      let e = open_front a (drop at area) tail_long qs in
      (ap (λ (l : Opened). l.answer) e, ap (λ (l : Opened). take at area ++ l.run) e ∙ put_back (open_of a qs (take (run_length (page_of a)) (drop at area))).run)

-- in the code's terms: the part lent is that from a place `at`, which is the stall's beginning
module _ (a : List ℕ) (s : Stall) (area : List ℕ) (long : shared_length (page_of a) ≤ length area) {at : ℕ} (e : at ≡ beginning (page_of a) s) where
  lent_is : take (length area - at) (drop at area) ≡ drop (beginning (page_of a) s) area
  lent_is = take_all (length area - at) (drop at area) (omega (arith, length-drop at area)) ∙ ap (λ (k : ℕ). drop k area) e

  put_is : (x : List ℕ) → put_mid at (length area - at) area x ≡ take (beginning (page_of a) s) area ++ x
  put_is x = put_rest at area x ∙ ap (λ (k : ℕ). take k area ++ x) e

  pub lent_sound : run_sound (page_of a) (take (length area - at) (drop at area)) ≡ run_sound (page_of a) (part_of (page_of a) s area)
  unfolding part_of
  lent_sound = ap (run_sound (page_of a)) lent_is ∙ front_sound (page_of a) (drop (beginning (page_of a) s) area) (tail_long a s area long)

  -- the answer and the area
  call_lent : (c : Call)
      → ((operation a (take (length area - at) (drop at area)) c).answer ≡ (operation a (part_of (page_of a) s area) c).answer)
      × (put_mid at (length area - at) area (operation a (take (length area - at) (drop at area)) c).run ≡ with_part (page_of a) s area (operation a (part_of (page_of a) s area) c).run)
  call_lent c =
      let h = operation_lent a s area long c in
      rw lent_is (h.0, put_is (operation a (drop (beginning (page_of a) s) area) c).run ∙ h.1)

  pub drives_lent : {k taken : ℕ} {rest : Bool} {r : List ℕ} → Drives (drive_of a (take (length area - at) (drop at area)) k) taken rest r
      → PartDrives a s area k taken rest (put_mid at (length area - at) area r)
  drives_lent {k} d =
      let h = call_lent (drive k) in
      record {
        tells = record { line = d.line; answer_is = sym h.0 ∙ sym d.answered.answer_is };
        area_is = ap (put_mid at (length area - at) area) d.answered.run_is ∙ h.1;
      }

  module _ (ok : sound a ≡ true) where
    pub evaluates_lent : (c : ℕ) {x : Answer} {r : List ℕ} → Answered (evaluate_of a (take (length area - at) (drop at area)) c) x r
        → Answered (evaluate_stall a s area c) x (put_mid at (length area - at) area r)
    evaluates_lent c d =
        let h = call_lent (evaluate c) in
        let q = evaluate_none a s area ok long c in
        record {
          answer_is = d.answer_is ∙ h.0 ∙ sym (ap (λ (l : Left). l.answer) q);
          run_is = ap (put_mid at (length area - at) area) d.run_is ∙ h.1 ∙ sym (ap (λ (l : Left). l.run) q);
        }

    pub opens_lent : (qs : List ℕ) {x : Opening} {r : List ℕ} → (x ≡ (open_of a qs (take (length area - at) (drop at area))).answer) × (r ≡ (open_of a qs (take (length area - at) (drop at area))).run)
        → (x ≡ (open_stall a s qs area).answer) × (put_mid at (length area - at) area r ≡ (open_stall a s qs area).run)
    opens_lent qs d =
        let h = open_lent a s area long qs in
        let q = open_none a s area ok long qs in (
          d.0 ∙ ap (λ (l : List ℕ). (open_of a qs l).answer) lent_is ∙ h.0 ∙ sym (ap (λ (o : Opened). o.answer) q),
          ap (put_mid at (length area - at) area) (d.1 ∙ ap (λ (l : List ℕ). (open_of a qs l).run) lent_is)
              ∙ put_is (open_of a qs (drop (beginning (page_of a) s) area)).run ∙ h.1 ∙ sym (ap (λ (o : Opened). o.run) q),
        )
