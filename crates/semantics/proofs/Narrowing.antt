-- Along any list of calls no low end falls and no high end rises. Assumes nothing.
use mathlib.Core.Path.{◌≡◌, refl, sym, ◌∙◌, ap, subst}
use mathlib.Core.Bool.{Bool, true, not}
use mathlib.Core.List.{List, [], ◌∷◌, ◌++◌}
use mathlib.Core.Option.{Option, none, some}
use Prim.Native.Nat.{ℕ, zero, suc, ◌+◌, ◌*◌, ◌≤◌, ◌<◌}
use native.Mathlib.Decide.{ℕ_discrete}
use native.Mathlib.Nat.{zero-add}
use native.Mathlib.Omega.{arith}
use lib.Dec.{leb}
use lib.ListN.{drop}
use borrow.Author.Tests.{leb-false, not-false}
use Rattle.fixpoint.specs.Interval.{Assign}
use Rattle.fixpoint.specs.KnowledgeOrder.{Under}
use Rattle.semantics.specs.Area.{sound, page_of}
use Rattle.semantics.specs.Call.{Call, evaluate, drive, value, line_held, Outcome, Cause, cause, first_of, unless, value_causes, outcome, taken_by, taken}
use Rattle.semantics.specs.Demand.{perform, perform_from, perform_book, book_at}
use Rattle.semantics.specs.Operation.{open_causes, open_of, opened_with}
use Rattle.semantics.specs.Page.{Page}
use Rattle.semantics.proofs.Proper.{Proper}
use Rattle.semantics.specs.Reading.{closure}
use Rattle.semantics.specs.RunArea.{run_of, interval_at}
use Rattle.semantics.specs.Table.{interval_of, member}
use Rattle.semantics.specs.Worklist.{Worklist, start, evaluated, lowest, drive_from}
use Rattle.fixpoint.proofs.KnowledgeOrder.{under_refl, under_trans}
use Rattle.semantics.proofs.Areas.{State, state_encodable, state_back, held_at}
use Rattle.semantics.proofs.Demand.{demand3, opened_none}
use Rattle.semantics.proofs.Invariant.{lowest_some, no_cause_holds, invariant_next, waits_real, invariant_call, after}
use Rattle.semantics.proofs.Readings.{plain_is}
use Rattle.semantics.proofs.Soundness.{sound_proper}
use Rattle.semantics.proofs.Steps.{puts_same, puts_other}

-- the book after more calls is that of the state before them
pub performed_on : (page : Page) (m : List Bool) (cs ds : List Call) (b : Worklist)
    → (perform_from page m b (cs ++ ds)).state ≡ (perform_from page m (perform_from page m b cs).state ds).state
unfolding perform_from
performed_on page m [] ds b = refl
performed_on page m (c ∷ cs) ds b = performed_on page m cs ds (outcome page m b c).state

module _ (page : Page) (w : Proper page) (qs : List ℕ) where
  abbrev m : List Bool
  m = closure page qs

  -- b' knows at least what b knows
  abbrev Narrower : Worklist → Worklist → Type 0
  Narrower b b' = (c : ℕ) → c < page.conditions → Under (interval_of b.intervals c) (interval_of b'.intervals c)

  narrower_refl : (b : Worklist) → Narrower b b
  narrower_refl b c l = under_refl (interval_of b.intervals c)

  -- an evaluation: what is reached is at or under its T
  narrower_next : (b : Worklist) (t A : ℕ) → State page w qs b t → A < page.conditions → member b.waiting A ≡ true → Narrower b (evaluated page m b A)
  narrower_next b t A h l e c k =
      let s = state_encodable page w qs b t h in
      elim (ℕ_discrete c A) [
        | yes q ↦ rw q (rw (puts_same page w m b s A l e) (h.state.grows A l (h.state.inside A l e)))
        | no q ↦ rw (puts_other page w m b s A l e c q) (under_refl (interval_of b.intervals c))
      ]

  narrower_drive : (k : ℕ) (o : Option ℕ) (b : Worklist) (t : ℕ) → lowest b ≡ o → State page w qs b t → Narrower b (drive_from page m k o b).state
  unfolding drive_from
  narrower_drive zero o b t e h = narrower_refl b
  narrower_drive (suc k) none b t e h = narrower_refl b
  narrower_drive (suc k) (some A) b t e h =
      let f = lowest_some 0 b.waiting A e in
      let on : member b.waiting A ≡ true = rw (f.1 ∙ zero-add f.0) f.3 in
      let l = waits_real page w qs _ (plain_is page w) b t A h on in
      let b' = evaluated page m b A in
      let h' = invariant_next page w qs _ (plain_is page w) b t A h l on in
      λ c j. under_trans (narrower_next b t A h l on c j) (narrower_drive k (lowest b') b' (suc t) refl h' c j)

  -- a refusal keeps the state
  narrower_unless : (cs : List Cause) (b : Worklist) (o : Outcome) → (first_of cs ≡ none → Narrower b o.state) → Narrower b (unless (first_of cs) b o).state
  narrower_unless cs b o g = go (first_of cs) g
    where
      go : (r : Option ℕ) → (r ≡ none → Narrower b o.state) → Narrower b (unless r b o).state
      go none g = g refl
      go (some k) g = narrower_refl b

  narrower_call : (b : Worklist) (t : ℕ) (c : Call) → State page w qs b t → Narrower b (outcome page m b c).state
  unfolding outcome
  narrower_call b t (evaluate A) h =
      narrower_unless (cause (leb page.conditions A) 15 ∷ cause (not (member b.waiting A)) 16 ∷ []) b _
      (λ e. let f = no_cause_holds (cause (leb page.conditions A) 15 ∷ cause (not (member b.waiting A)) 16 ∷ []) e in
      narrower_next b t A h (leb-false page.conditions A f.0) (not-false (member b.waiting A) f.1.0))
  narrower_call b t (drive k) h = narrower_drive k (lowest b) b t refl h
  narrower_call b t (value A) h = narrower_unless (value_causes page m A) b _ (λ e. narrower_refl b)
  narrower_call b t (line_held A) h = narrower_unless (value_causes page m A) b _ (λ e. narrower_refl b)

  narrower_calls : (cs : List Call) (b : Worklist) (t : ℕ) → State page w qs b t → Narrower b (perform_from page m b cs).state
  unfolding perform_from
  narrower_calls [] b t h = narrower_refl b
  narrower_calls (c ∷ cs) b t h =
      let o = outcome page m b c in
      let h' = invariant_call page w qs _ (plain_is page w) b t c h in
      λ d j. under_trans (narrower_call b t c h d j) (narrower_calls cs o.state (t + taken_by o.answer) h' d j)

  -- After more calls no interval is wider.
  pub narrows : (cs ds : List Call) (c : ℕ) → c < page.conditions → Under (book_at page qs cs c) (book_at page qs (cs ++ ds) c)
  narrows cs ds c l =
      let b = (perform_book page qs cs).state in
      subst (λ (b' : Worklist). Under (interval_of b.intervals c) (interval_of b'.intervals c)) (sym (performed_on page m cs ds (start page m)))
      (narrower_calls ds b (taken (perform_book page qs cs).answers) (after page w qs _ (plain_is page w) cs) c l)

  -- A low end at or over a threshold stays so, whatever is called next; so does a high end at or under one.
  pub stays_over : (cs ds : List Call) (c threshold : ℕ) → c < page.conditions → threshold ≤ (book_at page qs cs c).low → threshold ≤ (book_at page qs (cs ++ ds) c).low
  stays_over cs ds c threshold l h = omega (arith, narrows cs ds c l)

  pub stays_under : (cs ds : List Call) (c threshold : ℕ) → c < page.conditions → (book_at page qs cs c).high ≤ threshold → (book_at page qs (cs ++ ds) c).high ≤ threshold
  stays_under cs ds c threshold l h = omega (arith, narrows cs ds c l)

-- The same on areas: from an accepted opening, whatever is called
module _ (a qs r : List ℕ) (R E B k : ℕ) (e : (open_of a qs r).answer ≡ opened_with R E B k) where
  abbrev held : List Call → Assign
  held cs = interval_at (perform a (open_of a qs r).run cs).run

  ok : sound a ≡ true
  ok = not-false (sound a) (no_cause_holds (open_causes a qs r) (opened_none a qs r R E B k e)).0

  held_is : (cs : List Call) (c : ℕ) → c < (page_of a).conditions → held cs c ≡ book_at (page_of a) qs cs c
  held_is cs c l =
      let w = sound_proper a ok in
      let b = (perform_book (page_of a) qs cs).state in
      let h = state_encodable (page_of a) w qs b (taken (perform_book (page_of a) qs cs).answers) (after (page_of a) w qs _ (plain_is (page_of a) w) cs) in
      ap (λ (run : List ℕ). interval_at run c) (demand3 a qs r R E B k e cs).area
      ∙ sym (held_at (page_of a) (run_of (page_of a) (closure (page_of a) qs) b ++ drop (3 * (page_of a).conditions) r) c l)
      ∙ ap (λ (s : Worklist). interval_of s.intervals c) (state_back (page_of a) (closure (page_of a) qs) b h (drop (3 * (page_of a).conditions) r))

  pub area_narrows : (cs ds : List Call) (c : ℕ) → c < (page_of a).conditions
      → Under (interval_at (perform a (open_of a qs r).run cs).run c) (interval_at (perform a (open_of a qs r).run (cs ++ ds)).run c)
  area_narrows cs ds c l = rw (held_is cs c l, held_is (cs ++ ds) c l) (narrows (page_of a) (sound_proper a ok) qs cs ds c l)
