-- An evaluation on a run area, from the numbers that the code leaves to the area of the next state. Assumes nothing.
use mathlib.Core.Path.{◌≡◌, refl, sym, ◌∙◌, ap}
use mathlib.Core.Logic.{◌≢◌}
use mathlib.Core.Bool.{Bool, true, false, not, cond, ◌&&◌, ◌||◌, or-true, or-false, and-true, and-false}
use mathlib.Core.List.{List, ◌++◌}
use Prim.Native.Nat.{ℕ, ◌+◌, ◌*◌, ◌≤◌, ◌<◌}
use native.Mathlib.Decide.{ℕ_discrete}
use native.Mathlib.Omega.{arith}
use lib.Dec.{eqb, leb}
use lib.ListN.{length, get_or, set, drop, length-set}
use lib.Seq.{get_or-set_same, get_or-set_other, drop-set-lt}
use borrow.Author.Tests.{eq-eqb, ne_eqb, le-leb, leb-true}
use Rattle.fixpoint.specs.Interval.{same}
use Rattle.fixpoint.proofs.KnowledgeOrder.{pair_eq}
use Rattle.semantics.specs.Area.{page_of, top_of, conditions_of}
use Rattle.semantics.specs.Body.{T}
use Rattle.semantics.specs.Page.{Page, names}
use Rattle.semantics.proofs.Proper.{Proper}
use Rattle.semantics.specs.RunArea.{mark_of, run_of, interval_at, mark_at, worklist_of, reached_of, run_sound}
use Rattle.semantics.specs.Table.{interval_of, member}
use Rattle.semantics.specs.Worklist.{Worklist, changes, evaluated}
use Rattle.semantics.proofs.Areas.{from_cells, mark_back, run_long, cell_sound, held_at, waits_at, reached_at, sound_encodable, area_sound}
use Rattle.semantics.proofs.Readings.{page_system}
use Rattle.semantics.proofs.Steps.{puts_same, puts_other, waits_after, encodable_evaluated}
use Rattle.page.specs.Graded.{Graded, BodyValue}
use Rattle.worklist.specs.Cells.{DependantsMarked}
use Rattle.worklist.specs.Evaluation.{stored, Evaluated}
use Rattle.page.proofs.Head.{head_of, conditions_is}
use Rattle.page.specs.Solvable.{solvable}
use Rattle.page.proofs.Solvable.{solvable_proper}

-- a cell stored
module _ (run : List ℕ) (c low high mark : ℕ) where
  abbrev after : List ℕ
  after = stored c low high mark run

  -- a number of another place is as it was
  elsewhere : (j : ℕ) → j ≢ 3 * c → j ≢ 3 * c + 1 → j ≢ 3 * c + 2 → get_or after j 0 ≡ get_or run j 0
  unfolding stored
  elsewhere j p q r =
      get_or-set_other (set (set run (3 * c) low) (3 * c + 1) high) (3 * c + 2) j mark 0 r
      ∙ get_or-set_other (set run (3 * c) low) (3 * c + 1) j high 0 q
      ∙ get_or-set_other run (3 * c) j low 0 p

  pub stored_length : length after ≡ length run
  unfolding stored
  stored_length = simp length-set

  pub stored_beyond : (n : ℕ) → c < n → drop (3 * n) after ≡ drop (3 * n) run
  unfolding stored
  stored_beyond n l =
      drop-set-lt (3 * n) (set (set run (3 * c) low) (3 * c + 1) high) (3 * c + 2) mark (omega arith)
      ∙ drop-set-lt (3 * n) (set run (3 * c) low) (3 * c + 1) high (omega arith)
      ∙ drop-set-lt (3 * n) run (3 * c) low (omega arith)

  module _ (h : ℕ) (q : h ≢ c) where
    pub stored_apart : interval_at after h ≡ interval_at run h
    stored_apart =
        pair_eq (elsewhere (3 * h) (λ e. q (omega arith)) (λ e. omega arith) (λ e. omega arith))
        (elsewhere (3 * h + 1) (λ e. omega arith) (λ e. q (omega arith)) (λ e. omega arith))

    pub stored_mark_apart : mark_at after h ≡ mark_at run h
    stored_mark_apart = elsewhere (3 * h + 2) (λ e. omega arith) (λ e. omega arith) (λ e. q (omega arith))

  module _ (l : 3 * c + 3 ≤ length run) where
    pub stored_interval : interval_at after c ≡ record { low = low; high = high }
    unfolding stored
    stored_interval =
        pair_eq
        (get_or-set_other (set (set run (3 * c) low) (3 * c + 1) high) (3 * c + 2) (3 * c) mark 0 (λ e. omega arith)
        ∙ get_or-set_other (set run (3 * c) low) (3 * c + 1) (3 * c) high 0 (λ e. omega arith)
        ∙ get_or-set_same run (3 * c) low 0 (omega arith))
        (get_or-set_other (set (set run (3 * c) low) (3 * c + 1) high) (3 * c + 2) (3 * c + 1) mark 0 (λ e. omega arith)
        ∙ get_or-set_same (set run (3 * c) low) (3 * c + 1) high 0 (simp length-set (omega arith)))

    pub stored_mark : mark_at after c ≡ mark
    unfolding stored
    stored_mark = get_or-set_same (set (set run (3 * c) low) (3 * c + 1) high) (3 * c + 2) mark 0 (simp length-set (omega arith))

-- a sound run area has a cell for each condition
pub long_of : (a run : List ℕ) → run_sound (page_of a) run ≡ true → 3 * conditions_of a ≤ length run
unfolding page_of
long_of a run rs = run_long (page_of a) run rs

-- its marks are 0, 1 and 2
pub marks_of : (a run : List ℕ) → run_sound (page_of a) run ≡ true → (c : ℕ) → c < conditions_of a → mark_at run c ≤ 2
unfolding page_of
marks_of a run rs c l = leb-true (mark_at run c) 2 (cell_sound (page_of a) run rs c l).1.1.0

-- what the body value reads of a sound run area are grades
pub graded_of : (a run : List ℕ) → solvable a ≡ true → run_sound (page_of a) run ≡ true → Graded (top_of a) (conditions_of a) run
unfolding page_of
graded_of a run ok rs =
    let h = head_of a ok in
    record {
      some = h.top_least;
      small = h.top_most;
      few = h.few;
      long = long_of a run rs;
      within = λ c l. let s = cell_sound (page_of a) run rs c l in omega (arith, leb-true (get_or run (3 * c) 0) (get_or run (3 * c + 1) 0) s.0, leb-true (get_or run (3 * c + 1) 0) (top_of a) s.1.0);
    }

-- the mark of a condition: 2 if it is woken, else as it was
woken_mark : (x : Bool) (mark : ℕ) → mark ≤ 2 → cond x 2 mark ≡ mark_of (eqb mark 2 || x) (leb 1 mark)
woken_mark true mark l = rw or-true
woken_mark false mark l = rw or-false (sym (mark_back mark (le-leb mark 2 l)))

module _ (a run : List ℕ) (ok : solvable a ≡ true) (rs : run_sound (page_of a) run ≡ true) (c : ℕ) (l₀ : c < conditions_of a) (two : mark_at run c ≡ 2) {low high : ℕ} (v : BodyValue a run c low high) where
  abbrev page : Page
  page = page_of a

  abbrev w : Proper (page_of a)
  w = solvable_proper a ok

  abbrev m : List Bool
  m = reached_of (page_of a) run

  abbrev b : Worklist
  b = worklist_of (page_of a) run

  abbrev put : List ℕ
  put = stored c low high 1 run

  l : c < (page_of a).conditions
  l = rw (conditions_is a) l₀

  room : 3 * c + 3 ≤ length run
  room = omega (arith, l, run_long page run rs)

  body_is : T page (interval_of b.intervals) c ≡ record { low = low; high = high }
  body_is = (page_system page w).local (interval_of b.intervals) (interval_at run) c l (λ d k e. held_at page run d k) ∙ sym v.is

  changes_is : not (same (interval_at run c) (record { low = low; high = high })) ≡ changes page b c
  unfolding changes
  changes_is = rw (held_at page run c l, body_is)

  waiting : member b.waiting c ≡ true
  waiting = waits_at page run c l ∙ eq-eqb (mark_at run c) 2 two

  -- the numbers after the cell is stored and, if t says so, the dependants are marked
  record Written (t : Bool) (out : List ℕ) : Type 0 where
    same_length : length out ≡ length run
    intervals : (h : ℕ) → h < (page_of a).conditions → interval_at out h ≡ interval_at (stored c low high 1 run) h
    marks : (h : ℕ) → h < (page_of a).conditions → mark_at out h ≡ cond (t && (leb 1 (mark_at (stored c low high 1 run) h) && names (page_of a) h c)) 2 (mark_at (stored c low high 1 run) h)
    beyond : drop (3 * (page_of a).conditions) out ≡ drop (3 * (page_of a).conditions) run

  interval_is : (h : ℕ) → h < page.conditions → interval_at put h ≡ interval_of (evaluated page m b c).intervals h
  interval_is h k =
      elim (ℕ_discrete h c) [
        | yes q ↦ rw q (stored_interval run c low high 1 room ∙ sym body_is ∙ sym (puts_same page w m b (sound_encodable page run rs) c l waiting))
        | no q ↦ stored_apart run c low high 1 h q ∙ sym (held_at page run h k) ∙ sym (puts_other page w m b (sound_encodable page run rs) c l waiting h q)
      ]

  -- the mark stored is that of a condition that is reached as before, and waits as before unless it is c
  record Stored (h mark : ℕ) : Type 0 where
    small : mark ≤ 2
    waits : eqb mark 2 ≡ (member b.waiting h && not (eqb h c))
    reached : leb 1 mark ≡ member m h

  stored_is : (h : ℕ) → h < page.conditions → Stored h (mark_at put h)
  stored_is h k =
      elim (ℕ_discrete h c) [
        | yes q ↦ rw q (rw (stored_mark run c low high 1 room) (record { small = omega arith; waits = rw (eq-eqb c c refl, and-false); reached = sym (reached_at page run c l ∙ ap (leb 1) two) }))
        | no q ↦ rw (stored_mark_apart run c low high 1 h q) (record {
          small = leb-true (mark_at run h) 2 (cell_sound page run rs h k).1.1.0;
          waits = sym (rw (ne_eqb h c q, and-true) (waits_at page run h k));
          reached = sym (reached_at page run h k);
        })
      ]

  mark_is : (t : Bool) → t ≡ changes page b c → (h : ℕ) → h < page.conditions
      → cond (t && (leb 1 (mark_at put h) && names page h c)) 2 (mark_at put h) ≡ mark_of (member (evaluated page m b c).waiting h) (member m h)
  mark_is t e h k =
      let s = stored_is h k in
      woken_mark (t && (leb 1 (mark_at put h) && names page h c)) (mark_at put h) s.small
      ∙ rw (s.waits, s.reached, e) (ap (λ (x : Bool). mark_of x (member m h)) (sym (waits_after page w m b (sound_encodable page run rs) c l waiting h k)))

  evaluated_area : (t : Bool) → t ≡ changes page b c → (out : List ℕ) → Written t out → Evaluated (page_of a) c run out t
  unfolding run_of
  evaluated_area t e out s =
      record { answer = e; area = area; run_sound = rw area (area_sound page m (evaluated page m b c) (encodable_evaluated page w m b (sound_encodable page run rs) c l waiting) (drop (3 * page.conditions) run)) }
    where
      area : out ≡ run_of page m (evaluated page m b c) ++ drop (3 * page.conditions) run
      area =
          from_cells out (interval_of (evaluated page m b c).intervals) (λ h. mark_of (member (evaluated page m b c).waiting h) (member m h)) page.conditions
          (omega (arith, s.same_length, run_long page run rs))
          (λ h k. s.intervals h k ∙ interval_is h k) (λ h k. s.marks h k ∙ mark_is t e h k)
          ∙ ap (λ (z : List ℕ). run_of page m (evaluated page m b c) ++ z) s.beyond

  -- in the code's own terms
  module _ {t : Bool} (d : t ≡ not (same (interval_at run c) (record { low = low; high = high }))) {held : List ℕ} (e : held ≡ stored c low high 1 run) where
    pub evaluated_changed : {out : List ℕ} → t ≡ true → DependantsMarked (page_of a) c held out → Evaluated (page_of a) c run out t
    evaluated_changed {out} on k =
        let j : DependantsMarked (page_of a) c (stored c low high 1 run) out = rw e at k in
        evaluated_area t (d ∙ changes_is) out
        (record {
          same_length = j.same_length ∙ stored_length run c low high 1;
          intervals = j.intervals;
          marks = λ h i. rw on (j.marks h i);
          beyond = j.beyond ∙ stored_beyond run c low high 1 page.conditions l;
        })

    pub evaluated_same : t ≡ false → Evaluated (page_of a) c run held t
    evaluated_same off =
        rw e
        (evaluated_area t (d ∙ changes_is) put
        (record {
          same_length = stored_length run c low high 1;
          intervals = λ h i. refl;
          marks = λ h i. rw off;
          beyond = stored_beyond run c low high 1 page.conditions l;
        }))
