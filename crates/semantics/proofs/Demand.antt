-- Demand 3: after an accepted opening, any list of calls on areas follows the book, and the book keeps what is asked. Assumes nothing.
use mathlib.Core.Path.{◌≡◌, refl, sym, ◌∙◌, ap, ap₂, subst}
use mathlib.Core.Logic.{◌≢◌, ◌↔◌, inl, inr}
use mathlib.Core.Bool.{Bool, true, false, cond, ◌&&◌, false≢true}
use mathlib.Core.List.{List, [], ◌∷◌, ◌++◌}
use mathlib.Core.Option.{Option, none, some}
use Prim.Native.Nat.{ℕ, ◌+◌, ◌*◌, ◌<◌}
use native.Mathlib.Omega.{arith}
use lib.Dec.{eqb, leb, ltb}
use lib.ListN.{length, drop}
use borrow.Author.Tests.{leb-true, lt-leb, not-false, ltb-true, eqb-true}
use Rattle.fixpoint.specs.ChaoticIteration.{DependencyClosed}
use Rattle.fixpoint.specs.System.{System}
use Rattle.semantics.specs.Area.{all_under, sound, page_of}
use Rattle.semantics.specs.Body.{T}
use Rattle.semantics.specs.Call.{Call, evaluate, refused, changed, unchanged, first_of, outcome, taken, taken_by}
use Rattle.semantics.specs.Demand.{perform, perform_from, perform_book, Performed, Demand3}
use Rattle.semantics.specs.Operation.{open_causes, open_of, open_as, operation, Left, opened_with}
use Rattle.semantics.specs.Page.{Page, names}
use Rattle.semantics.proofs.Proper.{Proper}
use Rattle.semantics.specs.Reading.{closure, IsPassCount, pass_count, bound, count_r, count_e}
use Rattle.semantics.specs.RunArea.{run_of}
use Rattle.semantics.specs.Table.{listed, member}
use Rattle.semantics.specs.Worklist.{Worklist, start, changes, holder, lowest, rest, status_as, status}
use Rattle.fixpoint.proofs.ChaoticIteration.{in_time, none_waits, done}
use Rattle.semantics.proofs.Areas.{State, state_encodable, area_sound, reached_back, state_back, rest_back}
use Rattle.semantics.proofs.Closure.{reached_closed, reached_complete, bound_is, reached_real, closure_is, pass_count_is, passes_few}
use Rattle.semantics.proofs.Invariant.{lowest_some, lowest_none, rest_none, Invariant, after, waits_real, no_cause_holds, invariant_first, invariant_call, NoCause}
use Rattle.semantics.proofs.Readings.{page_system, plain_is, names_inside}
use Rattle.semantics.proofs.Soundness.{sound_proper, both_true}
use Rattle.semantics.proofs.Table.{or_cases}

pub rest_iff : (n : ℕ) (b : Worklist) → length b.waiting ≡ n → (status b ≡ rest) ↔ ((c : ℕ) → c < n → member b.waiting c ≡ false)
rest_iff n b l = (λ e c k. lowest_none 0 b.waiting (rest_none (lowest b) e) c, λ q. go q (lowest b) refl)
  where
    go : ((c : ℕ) → c < n → member b.waiting c ≡ false) → (o : Option ℕ) → lowest b ≡ o → status_as o ≡ rest
    go q none e = refl
    go q (some a) e =
        let f = lowest_some 0 b.waiting a e in
        absurd (false≢true (sym (q f.0 (omega arith)) ∙ f.3))

accepted_by : (page : Page) (m : List Bool) (b : Worklist) (c : ℕ) → c < page.conditions → member b.waiting c ≡ true
    → (k : ℕ) → (outcome page m b (evaluate c)).answer ≢ refused k
unfolding outcome
accepted_by page m b c l e k q = go (changes page b c) (holder page b c) (rw (lt-leb page.conditions c l, e) at q)
  where
    go : (t : Bool) (line : ℕ) → cond t changed unchanged line ≡ refused k → ⊥
    go true line q = let z : ◌≡◌ {A = ℕ} 0 1 = cc in omega arith
    go false line q = let z : ◌≡◌ {A = ℕ} 0 1 = cc in omega arith

pub under_listed : (n : ℕ) (qs : List ℕ) → all_under n qs ≡ true → (c : ℕ) → listed c qs ≡ true → c < n
unfolding all_under listed
under_listed n [] u c e = absurd (false≢true e)
under_listed n (q ∷ qs) u c e =
    let h = both_true (ltb q n) (all_under n qs) u in
    elim (or_cases (eqb q c) (listed c qs) e) [
      | inl k ↦ omega (arith, ltb-true q n h.0, eqb-true q c k)
      | inr k ↦ under_listed n qs h.1 c k
    ]

module _ (a : List ℕ) (ok : sound a ≡ true) (qs : List ℕ) where
  abbrev page : Page
  page = page_of a

  abbrev w : Proper (page_of a)
  w = sound_proper a ok

  -- one call on an area that holds the book
  pub one : (b : Worklist) (t : ℕ) → State page w qs b t → (z : List ℕ) (c : Call)
      → operation a (run_of page (closure page qs) b ++ z) c
      ≡ record { answer = (outcome page (closure page qs) b c).answer; run = run_of page (closure page qs) (outcome page (closure page qs) b c).state ++ z }
  unfolding operation
  one b t h z c =
      let e = state_encodable page w qs b t h in
      let m = closure page qs in
      rw (ok, area_sound page m b e z) (rw (reached_back page m b e z, state_back page m b e z, rest_back page m b e z))

  many : (cs : List Call) (b : Worklist) (t : ℕ) → State page w qs b t → (z : List ℕ)
      → perform a (run_of page (closure page qs) b ++ z) cs
      ≡ record { answers = (perform_from page (closure page qs) b cs).answers; run = run_of page (closure page qs) (perform_from page (closure page qs) b cs).state ++ z }
  unfolding perform perform_from
  many [] b t h z = refl
  many (c ∷ cs) b t h z =
      let o = outcome page (closure page qs) b c in
      rw (one b t h z c) (rw (many cs o.state (t + taken_by o.answer) (invariant_call page w qs _ (plain_is page w) b t c h) z))

-- an opening that returns R, E and the bound had no cause of refusal
opened_with_lem : (o : Option ℕ) (page : Page) (m : List Bool) (j : ℕ) (r : List ℕ) (R E B k : ℕ) → (open_as o page m j r).answer ≡ opened_with R E B k
    → (o ≡ none) × (count_r page m ≡ R) × (count_e page m ≡ E) × (bound page m ≡ B) × (j ≡ k)
opened_with_lem none page m j r R E B k e = (refl, (cc), (cc), (cc), (cc))
opened_with_lem (some c) page m j r R E B k e = absurd (let z : ◌≡◌ {A = ℕ} 0 1 = cc in omega arith)

pub opened_none : (a qs r : List ℕ) (R E B k : ℕ) → (open_of a qs r).answer ≡ opened_with R E B k → first_of (open_causes a qs r) ≡ none
unfolding open_of
opened_none a qs r R E B k e = (opened_with_lem (first_of (open_causes a qs r)) (page_of a) (closure (page_of a) qs) (pass_count (page_of a) qs) r R E B k e).0

pub demand3 : Demand3
demand3 a qs r R E B k e calls =
    record {
      reached_count = sym o.1;
      edge_count = sym o.2;
      bound_is = bound_by;
      pass_count = subst (IsPassCount (page_of a) qs) o.4 (pass_count_is (page_of a) qs);
      passes_few = rw (← o.4, ← o.1) (passes_few (page_of a) qs (names_inside (page_of a) w) asked (leb-true 1 (length qs) (both_true (leb 1 (length qs)) (leb (length qs) 16) (not-false (leb 1 (length qs) && leb (length qs) 16) no.1.0)).0));
      reached_are = closure_is (page_of a) qs (names_inside (page_of a) w) asked;
      area = ap (λ (j : Performed). j.run) same;
      answers = same_answers;
      plain_exists = (_, plain_is (page_of a) w);
      covers = λ P p c g l lo hi. let u = (after (page_of a) w qs P p calls).state.known c l in (omega arith, omega arith);
      in_time = rw (same_answers, ← o.3, bound_is (page_of a) qs) (in_time S C (plain_is (page_of a) w) K.state);
      rests = rest_iff (page_of a).conditions b K.waiting_length;
      accepted = λ c h i f. accepted_by (page_of a) (closure (page_of a) qs) b c (waits_real (page_of a) w qs _ (plain_is (page_of a) w) b _ c K h) h i
          (sym (ap (λ (l : Left). l.answer) (ap (λ (l : List ℕ). operation a l (evaluate c)) (ap (λ (j : Performed). j.run) same) ∙ one a ok qs b _ K (drop (3 * (page_of a).conditions) r) (evaluate c))) ∙ f);
      bound_rests = λ f. (rest_iff (page_of a).conditions b K.waiting_length).1
          (none_waits S C (plain_is (page_of a) w) K.state (sym (ap taken same_answers) ∙ f ∙ sym o.3 ∙ bound_is (page_of a) qs));
      plain = λ f P p c h. done S C p (after (page_of a) w qs P p calls).state ((rest_iff (page_of a).conditions b K.waiting_length).0 f) c
          (reached_real (page_of a) qs (names_inside (page_of a) w) asked h) (reached_complete (page_of a) qs (names_inside (page_of a) w) asked h);
    }
  where
    o : (first_of (open_causes a qs r) ≡ none) × (count_r (page_of a) (closure (page_of a) qs) ≡ R) × (count_e (page_of a) (closure (page_of a) qs) ≡ E) × (bound (page_of a) (closure (page_of a) qs) ≡ B) × (pass_count (page_of a) qs ≡ k)
    o = unfold open_of in opened_with_lem (first_of (open_causes a qs r)) (page_of a) (closure (page_of a) qs) (pass_count (page_of a) qs) r R E B k e

    bound_by : B ≡ R + (page_of a).top * E
    bound_by = unfold bound in sym o.3 ∙ ap₂ (λ (x y : ℕ). x + (page_of a).top * y) o.1 o.2

    no : NoCause (open_causes a qs r)
    no = no_cause_holds (open_causes a qs r) o.0

    ok : sound a ≡ true
    ok = not-false (sound a) no.0

    w : Proper (page_of a)
    w = sound_proper a ok

    asked : (c : ℕ) → listed c qs ≡ true → c < (page_of a).conditions
    asked = under_listed (page_of a).conditions qs (not-false (all_under (page_of a).conditions qs) no.1.1.0)

    S : System (page_of a).conditions (page_of a).top (T (page_of a)) (names (page_of a))
    S = page_system (page_of a) w

    C : DependencyClosed (page_of a).conditions (names (page_of a)) (member (closure (page_of a) qs))
    C = reached_closed (page_of a) qs

    b : Worklist
    b = (perform_book (page_of a) qs calls).state

    K : Invariant (page_of a) w qs _ (plain_is (page_of a) w) (perform_book (page_of a) qs calls).state (taken (perform_book (page_of a) qs calls).answers)
    K = after (page_of a) w qs _ (plain_is (page_of a) w) calls

    opens : (open_of a qs r).run ≡ run_of (page_of a) (closure (page_of a) qs) (start (page_of a) (closure (page_of a) qs)) ++ drop (3 * (page_of a).conditions) r
    opens = unfold open_of in ap (λ (x : Option ℕ). (open_as x (page_of a) (closure (page_of a) qs) (pass_count (page_of a) qs) r).run) o.0

    same : perform a (open_of a qs r).run calls
        ≡ record { answers = (perform_book (page_of a) qs calls).answers; run = run_of (page_of a) (closure (page_of a) qs) (perform_book (page_of a) qs calls).state ++ drop (3 * (page_of a).conditions) r }
    same = ap (λ (l : List ℕ). perform a l calls) opens ∙ many a ok qs calls (start (page_of a) (closure (page_of a) qs)) 0 (invariant_first (page_of a) w qs _ (plain_is (page_of a) w)) (drop (3 * (page_of a).conditions) r)

    same_answers : (perform a (open_of a qs r).run calls).answers ≡ (perform_book (page_of a) qs calls).answers
    same_answers = ap (λ (j : Performed). j.answers) same
