-- What every list of calls keeps of the book: the invariant of chaotic iteration, and that an unreached condition holds [0;top]. Assumes nothing.
use mathlib.Core.Path.{◌≡◌, refl, sym, ◌∙◌, ap, subst}
use mathlib.Core.Bool.{Bool, true, false, not, cond, true≢false, false≢true}
use mathlib.Core.List.{List, [], ◌∷◌}
use mathlib.Core.Option.{Option, none, some}
use Prim.Native.Nat.{ℕ, zero, suc, ◌+◌, ◌<◌}
use native.Mathlib.Decide.{ℕ_discrete, dec_le}
use native.Mathlib.Nat.{zero-add}
use native.Mathlib.Omega.{arith}
use lib.Dec.{leb}
use lib.ListN.{length, get_or, set, length-set, get_or-eq_default}
use lib.Seq.{get_or-set_same, get_or-set_other}
use borrow.Author.Tests.{eq-eqb, ne_eqb, leb-false, not-false}
use Rattle.fixpoint.specs.ChaoticIteration.{put, woken, DependencyClosed, Kept}
use Rattle.fixpoint.specs.Interval.{Assign}
use Rattle.fixpoint.specs.KnowledgeOrder.{bottom}
use Rattle.fixpoint.specs.System.{System}
use Rattle.semantics.specs.Body.{T}
use Rattle.semantics.specs.Call.{Call, evaluate, drive, value, line_held, changed, unchanged, Outcome, Cause, cause, first_of, unless, value_causes, outcome, taken_by, taken}
use Rattle.semantics.specs.Demand.{perform_from, perform_book}
use Rattle.semantics.specs.Page.{Page, names}
use Rattle.semantics.proofs.Proper.{Proper}
use Rattle.semantics.specs.Reading.{IsPlain, closure}
use Rattle.semantics.specs.Table.{interval_of, member, all_unknown}
use Rattle.semantics.specs.Worklist.{Worklist, start, changes, waiting_after, evaluated, holder, lowest_from, lowest, rest, status_as, drive_from}
use Rattle.fixpoint.proofs.ChaoticIteration.{kept_first}
use Rattle.fixpoint.proofs.ChaoticStep.{kept}
use Rattle.semantics.proofs.Closure.{reached_closed, closure_length}
use Rattle.semantics.proofs.Readings.{page_system, plain_ordered}
use Rattle.semantics.proofs.Table.{length_from, get_d_table}

-- the lowest waiting
pub lowest_some : (k : ℕ) (w : List Bool) (a : ℕ) → lowest_from k w ≡ some a → (i : ℕ) × (a ≡ k + i) × (i < length w) × (get_or w i false ≡ true)
unfolding lowest_from
lowest_some k [] a e = absurd (let z : ◌≡◌ {A = ℕ} 0 1 = cc in omega arith)
lowest_some k (true ∷ w) a e = let h : k ≡ a = cc in (0, omega arith, omega arith, refl)
lowest_some k (false ∷ w) a e = let r = lowest_some (suc k) w a e in (suc r.0, omega arith, omega arith, r.3)

pub lowest_none : (k : ℕ) (w : List Bool) → lowest_from k w ≡ none → (i : ℕ) → get_or w i false ≡ false
unfolding lowest_from
lowest_none k [] e i = refl
lowest_none k (true ∷ w) e i = absurd (let z : ◌≡◌ {A = ℕ} 0 1 = cc in omega arith)
lowest_none k (false ∷ w) e zero = refl
lowest_none k (false ∷ w) e (suc i) = lowest_none (suc k) w e i

pub rest_none : (o : Option ℕ) → status_as o ≡ rest → o ≡ none
rest_none none e = refl
rest_none (some a) e = absurd (let z : ◌≡◌ {A = ℕ} 0 1 = cc in omega arith)

pub takes_one : (t : Bool) (line : ℕ) → taken_by (cond t changed unchanged line) ≡ 1
takes_one true line = refl
takes_one false line = refl

-- no cause of a list holds
abbrev pub NoCause : List Cause → Type 0
NoCause [] = Unit {0}
NoCause (cause t k ∷ cs) = (t ≡ false) × NoCause cs

pub no_cause_holds : (cs : List Cause) → first_of cs ≡ none → NoCause cs
no_cause_holds [] e = tt
no_cause_holds (cause true k ∷ cs) e = absurd (let z : ◌≡◌ {A = ℕ} 0 1 = cc in omega arith)
no_cause_holds (cause false k ∷ cs) e = (refl, no_cause_holds cs e)

module _ (page : Page) (w : Proper page) (qs : List ℕ) (P : Assign) (p : IsPlain page P) where
  abbrev n : ℕ
  n = page.conditions

  abbrev m : List Bool
  m = closure page qs

  pub record Invariant (b : Worklist) (t : ℕ) : Type 0 where
    pub intervals_length : length b.intervals ≡ page.conditions
    pub waiting_length : length b.waiting ≡ page.conditions
    pub unreached : (c : ℕ) → c < page.conditions → member (closure page qs) c ≡ false → interval_of b.intervals c ≡ record { low = 0; high = page.top }
    pub state : Kept page.conditions page.top (T page) (names page) (member (closure page qs)) P (interval_of b.intervals) (member b.waiting) t

  S : System n page.top (T page) (names page)
  S = page_system page w

  C : DependencyClosed n (names page) (member m)
  C = reached_closed page qs

  pub invariant_first : Invariant (start page m) 0
  unfolding start all_unknown
  invariant_first =
      record {
        intervals_length = length_from n 0 _;
        waiting_length = closure_length page qs;
        unreached = λ c l e. get_d_table n (λ c. record { low = 0; high = page.top }) c _ l;
        state = kept_first S C p (λ c l. unfold bottom in get_d_table n (λ c. record { low = 0; high = page.top }) c _ l) (λ c l. refl);
      }

  pub invariant_next : (b : Worklist) (t A : ℕ) → Invariant b t → A < n → member b.waiting A ≡ true → Invariant (evaluated page m b A) (suc t)
  unfolding evaluated waiting_after
  invariant_next b t A h l e =
      record {
        intervals_length = length-set b.intervals A (T page (interval_of b.intervals) A) ∙ h.intervals_length;
        waiting_length = length_from n 0 _;
        unreached = λ c k f. get_or-set_other b.intervals A c (T page (interval_of b.intervals) A) _ (λ q. true≢false (sym (h.state.inside A l e) ∙ ap (member m) (sym q) ∙ f)) ∙ h.unreached c k f;
        state = kept S C p (λ c k r. plain_ordered page w p c k) h.state (record { real = l; waits = e; puts = puts; wakes = λ c k. unfold woken changes in get_d_table n _ c false k });
      }
    where
      puts : (c : ℕ) → c < n → interval_of (set b.intervals A (T page (interval_of b.intervals) A)) c ≡ put (interval_of b.intervals) A (T page (interval_of b.intervals) A) c
      puts c k =
          unfold put in elim (ℕ_discrete c A) [
            | yes q ↦ rw q (rw (eq-eqb A A refl) (get_or-set_same b.intervals A (T page (interval_of b.intervals) A) _ (omega (arith, h.intervals_length))))
            | no q ↦ rw (ne_eqb c A q) (get_or-set_other b.intervals A c (T page (interval_of b.intervals) A) _ q)
          ]

  -- what waits is a condition
  pub waits_real : (b : Worklist) (t A : ℕ) → Invariant b t → member b.waiting A ≡ true → A < n
  waits_real b t A h e =
      elim (dec_le (suc A) n) [
        | yes q ↦ q
        | no q ↦ absurd (false≢true (sym (get_or-eq_default b.waiting false (omega (arith, h.waiting_length))) ∙ e))
      ]

  move : {b : Worklist} {s t : ℕ} → s ≡ t → Invariant b s → Invariant b t
  move {b} e h = subst (λ (k : ℕ). Invariant b k) e h

  invariant_drive : (k : ℕ) (o : Option ℕ) (b : Worklist) (t : ℕ) → lowest b ≡ o → Invariant b t
      → Invariant (drive_from page m k o b).state (t + (drive_from page m k o b).taken)
  unfolding drive_from
  invariant_drive zero o b t e h = move (omega arith) h
  invariant_drive (suc k) none b t e h = move (omega arith) h
  invariant_drive (suc k) (some A) b t e h =
      let f = lowest_some 0 b.waiting A e in
      let on : member b.waiting A ≡ true = rw (f.1 ∙ zero-add f.0) f.3 in
      let b' = evaluated page m b A in
      move (omega arith) (invariant_drive k (lowest b') b' (suc t) refl (invariant_next b t A h (waits_real b t A h on) on))

  -- a refusal keeps the state and takes no evaluation
  invariant_unless : (cs : List Cause) (b : Worklist) (o : Outcome) (t : ℕ) → Invariant b t → (first_of cs ≡ none → Invariant o.state (t + taken_by o.answer))
      → Invariant (unless (first_of cs) b o).state (t + taken_by (unless (first_of cs) b o).answer)
  invariant_unless cs b o t h g = go (first_of cs) g
    where
      go : (r : Option ℕ) → (r ≡ none → Invariant o.state (t + taken_by o.answer)) → Invariant (unless r b o).state (t + taken_by (unless r b o).answer)
      go none g = g refl
      go (some k) g = move (omega arith) h

  pub invariant_call : (b : Worklist) (t : ℕ) (c : Call) → Invariant b t → Invariant (outcome page m b c).state (t + taken_by (outcome page m b c).answer)
  unfolding outcome
  invariant_call b t (evaluate A) h =
      invariant_unless (cause (leb n A) 15 ∷ cause (not (member b.waiting A)) 16 ∷ []) b _ t h
      (λ e. let f = no_cause_holds (cause (leb n A) 15 ∷ cause (not (member b.waiting A)) 16 ∷ []) e in
      move (omega (arith, takes_one (changes page b A) (holder page b A))) (invariant_next b t A h (leb-false n A f.0) (not-false (member b.waiting A) f.1.0)))
  invariant_call b t (drive k) h = invariant_drive k (lowest b) b t refl h
  invariant_call b t (value A) h = invariant_unless (value_causes page m A) b _ t h (λ e. move (omega arith) h)
  invariant_call b t (line_held A) h = invariant_unless (value_causes page m A) b _ t h (λ e. move (omega arith) h)

  pub invariant_calls : (cs : List Call) (b : Worklist) (t : ℕ) → Invariant b t → Invariant (perform_from page m b cs).state (t + taken (perform_from page m b cs).answers)
  unfolding perform_from taken
  invariant_calls [] b t h = move (omega arith) h
  invariant_calls (c ∷ cs) b t h =
      let o = outcome page m b c in
      move (omega arith) (invariant_calls cs o.state (t + taken_by o.answer) (invariant_call b t c h))

  pub after : (cs : List Call) → Invariant (perform_book page qs cs).state (taken (perform_book page qs cs).answers)
  after cs = move (omega arith) (invariant_calls cs (start page m) 0 invariant_first)
