-- Demand 3 for each stall's own part: on it every step is the calls that it stands for in the stall's own book. Assumes nothing.
use mathlib.Core.Path.{◌≡◌, refl, sym, ◌∙◌, ap, ap₂}
use mathlib.Core.Bool.{Bool, true, false, cond}
use mathlib.Core.List.{List, [], ◌∷◌, ◌++◌, append-nil}
use mathlib.Core.Option.{Option, none, some}
use Prim.Native.Nat.{ℕ, ◌+◌, ◌*◌, ◌≤◌}
use native.Mathlib.Omega.{arith}
use lib.Dec.{leb}
use lib.ListN.{length, drop, drop_of_length-le}
use borrow.Author.Tests.{le-leb, leb-true, not-false}
use Rattle.semantics.specs.Area.{sound, page_of}
use Rattle.semantics.specs.Call.{Call, evaluate, drive, Answer, first_of, outcome, taken}
use Rattle.semantics.specs.Demand.{Recorded, perform, perform_from, perform_book, RunKeeps}
use Rattle.semantics.specs.Operation.{Opened, opened_with, open_of, open_as, Left, operation}
use Rattle.semantics.specs.Page.{Page}
use Rattle.semantics.proofs.Proper.{Proper}
use Rattle.semantics.specs.Reading.{closure, pass_count}
use Rattle.semantics.specs.RunArea.{run_of, run_sound, reached_of, worklist_of}
use Rattle.semantics.specs.Worklist.{Worklist, start, driven}
use Rattle.semantics.proofs.Areas.{State, state_encodable, area_sound, reached_back, state_back, length_run}
use Rattle.semantics.proofs.Demand.{one, opened_none, demand3}
use Rattle.semantics.proofs.Invariant.{invariant_first, invariant_calls, after, no_cause_holds}
use Rattle.semantics.proofs.Readings.{plain_is}
use Rattle.semantics.proofs.Soundness.{sound_proper}
use Rattle.semantics.specs.Stalls.{Stall, first, second, other, of_stall, number_of, need, need_of, share, shared_length, part_of, with_part, shared_causes, open_stall_as, open_stall, evaluate_stall, Told, told_by, refused_turn, Turn, share_of, turn_told, turn_part, turn_of}
use Rattle.semantics.specs.StallsDemand.{Step, evaluates, alone, turn, elsewhere, StallAnswer, by_call, by_turn, told, written, Stepped, step_of, perform_steps, evaluations_in, Booked, book_drive, no_call, book_step, book_from, steps_of, booked_of, StallDemand3}
use Rattle.semantics.proofs.StallsParts.{length_operation, length_part, part_with, length_with, with_part_lem}
use Rattle.semantics.proofs.StallsTurn.{unsound_other, Ready, turn_done, turn_leaves, turn_length}

-- the calls of one list after those of another
performed_both : (page : Page) (m : List Bool) (cs ds : List Call) (b : Worklist)
    → perform_from page m b (cs ++ ds)
    ≡ record {
      answers = (perform_from page m b cs).answers ++ (perform_from page m (perform_from page m b cs).state ds).answers;
      state = (perform_from page m (perform_from page m b cs).state ds).state;
    }
unfolding perform_from
performed_both page m [] ds b = refl
performed_both page m (c ∷ cs) ds b =
    let o = outcome page m b c in
    ap (λ (l : Recorded). record { answers = o.answer ∷ l.answers; state = l.state }) (performed_both page m cs ds o.state)

-- the evaluations that the answers tell of
evaluations_both : (xs ys : List StallAnswer) → evaluations_in (xs ++ ys) ≡ evaluations_in xs + evaluations_in ys
unfolding evaluations_in
evaluations_both [] ys = omega arith
evaluations_both (x ∷ xs) ys = omega (arith, evaluations_both xs ys)

taken_both : (xs ys : List Answer) → taken (xs ++ ys) ≡ taken xs + taken ys
unfolding taken
taken_both [] ys = omega arith
taken_both (x ∷ xs) ys = omega (arith, taken_both xs ys)

counted : (page : Page) (m : List Bool) (s : Stall) (b : Worklist) (others : List ℕ) (st : Step)
    → let o = book_step page m s b others st in evaluations_in o.answers ≡ taken (perform_from page m b o.calls).answers
unfolding book_step perform_from evaluations_in taken outcome
counted page m s b others (evaluates c) = refl
counted page m s b others (alone c) = refl
counted page m s b others (turn c) = go (run_sound page others)
  where
    go : (v : Bool) → let o = cond v (book_drive page m b (share c s (need page m b c) (need_of page others c))) no_call in evaluations_in o.answers ≡ taken (perform_from page m b o.calls).answers
    go true = refl
    go false = refl
counted page m s b others (elsewhere x) = refl

told_is : (s : Stall) (f : Stall → Told) → of_stall s (f first) (f second) ≡ f s
told_is first f = refl
told_is second f = refl

module _ (a : List ℕ) (ok : sound a ≡ true) (s : Stall) (qs : List ℕ) where
  abbrev page : Page
  page = page_of a

  abbrev w : Proper (page_of a)
  w = sound_proper a ok

  abbrev m : List Bool
  m = closure (page_of a) qs

  -- the shared area is long enough, and the stall's part of it is that of the book b
  record Holds (b : Worklist) (area : List ℕ) : Type 0 where
    long : shared_length (page_of a) ≤ length area
    part : part_of (page_of a) s area ≡ run_of (page_of a) (closure (page_of a) qs) b

  module _ (b : Worklist) (t : ℕ) (k : State page w qs b t) (area : List ℕ) (h : Holds b area) where
    -- the part, as the laws of areas have it
    part_is : part_of page s area ≡ run_of page m b ++ []
    part_is = h.part ∙ sym (append-nil (run_of page m b))

    own_sound : run_sound page (part_of page s area) ≡ true
    own_sound = rw part_is (area_sound page m b (state_encodable page w qs b t k) [])

    own_reached : reached_of page (part_of page s area) ≡ m
    own_reached = rw part_is (reached_back page m b (state_encodable page w qs b t k) [])

    own_state : worklist_of page (part_of page s area) ≡ b
    own_state = rw part_is (state_back page m b (state_encodable page w qs b t k) [])

    own_need : (c : ℕ) → need_of page (part_of page s area) c ≡ need page m b c
    own_need c = ap₂ (λ (r : List Bool) (v : Worklist). need page r v c) own_reached own_state

    -- a call on the part
    own_call : (c : Call) → operation a (part_of page s area) c ≡ record { answer = (outcome page m b c).answer; run = run_of page m (outcome page m b c).state }
    own_call c =
        rw part_is (one a ok qs b t k [] c
        ∙ ap (λ (r : List ℕ). record { answer = (outcome page m b c).answer; run = r }) (append-nil (run_of page m (outcome page m b c).state)))

    -- what is put back
    holds_with : (c : Call) → Holds (outcome page m b c).state (with_part page s area (operation a (part_of page s area) c).run)
    holds_with c =
        let l = length_operation a (part_of page s area) c ∙ length_part page s area h.long in
        record {
          long = omega (arith, length_with page s area h.long (operation a (part_of page s area) c).run l);
          part = part_with page s area h.long (operation a (part_of page s area) c).run l ∙ ap (λ (l : Left). l.run) (own_call c);
        }

    -- Evaluate of this stall is Evaluate of its part
    shared_is : (c : ℕ)
        → evaluate_stall a s area c
        ≡ record { answer = (operation a (part_of page s area) (evaluate c)).answer; run = with_part page s area (operation a (part_of page s area) (evaluate c)).run }
    unfolding evaluate_stall
    shared_is c = rw (ok, le-leb (shared_length page) (length area) h.long)

    -- a turn with the other's part sound, and not
    both_ready : (c : ℕ) → run_sound page (part_of page (other s) area) ≡ true → Ready a area c
    both_ready c e = record { page_sound = ok; long = h.long; parts_sound = each s e own_sound }
      where
        each : (u : Stall) → run_sound page (part_of page (other u) area) ≡ true → run_sound page (part_of page u area) ≡ true
            → (v : Stall) → run_sound page (part_of page v area) ≡ true
        each first e f first = f
        each first e f second = e
        each second e f first = e
        each second e f second = f

    turn_refused : (c : ℕ) → run_sound page (part_of page (other s) area) ≡ false → turn_of a area c ≡ record { answer = refused_turn 14 (number_of (other s)); area = area }
    unfolding turn_of
    turn_refused c e = rw (ok, le-leb (shared_length page) (length area) h.long, unsound_other page area s own_sound false e)

    own_turn : (c : ℕ) → turn_part a s area c ≡ operation a (part_of page s area) (drive (share c s (need page m b c) (need_of page (part_of page (other s) area) c)))
    own_turn c = ap (λ (n : ℕ). operation a (part_of page s area) (drive (share c s n (need_of page (part_of page (other s) area) c)))) (own_need c)

    own_told : (c : ℕ) → turn_told page s area c ≡ told_by (driven page m (share c s (need page m b c) (need_of page (part_of page (other s) area) c)) b)
    own_told c =
        ap₂ (λ (r : List Bool) (v : Worklist). told_by (driven page r (share_of page s area c) v)) own_reached own_state
        ∙ ap (λ (n : ℕ). told_by (driven page m (share c s n (need_of page (part_of page (other s) area) c)) b)) (own_need c)

    -- a step is the calls that it stands for
    abbrev Stands : Booked → Stepped → Type 0
    Stands k o = (o.answers ≡ k.answers) × Holds (perform_from page m b k.calls).state o.area

    turns : (c : ℕ) (v : Bool) → run_sound page (part_of page (other s) area) ≡ v
        → Stands (cond v (book_drive page m b (share c s (need page m b c) (need_of page (part_of page (other s) area) c))) no_call) (record { answers = told s (turn_of a area c).answer; area = (turn_of a area c).area })
    unfolding perform_from
    turns c false e = rw (turn_refused c e) (refl, h)
    turns c true e =
        let r = both_ready c e in
        let q = own_turn c ∙ own_call (drive (share c s (need page m b c) (need_of page (part_of page (other s) area) c))) in (
          ap (λ (u : Turn). told s u.answer) (turn_done a area c r)
              ∙ ap (λ (x : Told). by_turn x ∷ []) (told_is s (λ v. turn_told page v area c) ∙ own_told c),
          record { long = omega (arith, turn_length a area c r, h.long); part = turn_leaves a area c r s ∙ ap (λ (l : Left). l.run) q },
        )

    step : (st : Step) → Stands (book_step page m s b (part_of page (other s) area) st) (step_of a s area st)
    unfolding book_step perform_from
    step (evaluates c) =
        rw (shared_is c) (ap (λ (l : Left). by_call l.answer ∷ []) (own_call (evaluate c)), holds_with (evaluate c))
    step (alone c) = (ap (λ (l : Left). by_call l.answer ∷ []) (own_call c), holds_with c)
    step (turn c) = turns c (run_sound page (part_of page (other s) area)) refl
    step (elsewhere x) = (refl, go (leb (shared_length page) (length x)) refl)
      where
        go : (v : Bool) → leb (shared_length page) (length x) ≡ v → Holds b (cond v (with_part page s x (part_of page s area)) area)
        go false e = h
        go true e =
            let g = leb-true (shared_length page) (length x) e in
            let l = length_part page s area h.long in
            record {
              long = omega (arith, length_with page s x g (part_of page s area) l);
              part = part_with page s x g (part_of page s area) l ∙ h.part;
            }

  -- and so is a list of steps
  record Stand (b : Worklist) (area : List ℕ) (sts : List Step) : Type 0 where
    answers : (perform_steps a s area sts).answers ≡ (book_from a m s b area sts).answers
    holds : Holds (perform_from page m b (book_from a m s b area sts).calls).state (perform_steps a s area sts).area
    counts : evaluations_in (book_from a m s b area sts).answers ≡ taken (perform_from page m b (book_from a m s b area sts).calls).answers

  steps_stand : (sts : List Step) (b : Worklist) (t : ℕ) → State page w qs b t → (area : List ℕ) → Holds b area → Stand b area sts
  unfolding perform_steps book_from
  steps_stand [] b t k area h = unfold perform_from evaluations_in taken in record { answers = refl; holds = h; counts = refl }
  steps_stand (st ∷ sts) b t k area h =
      let o = book_step page m s b (part_of page (other s) area) st in
      let u = step b t k area h st in
      let l = perform_from page m b o.calls in
      let more = steps_stand sts l.state (t + taken l.answers) (invariant_calls page w qs _ (plain_is page w) o.calls b t k) (step_of a s area st).area u.1 in
      let rest = book_from a m s l.state (step_of a s area st).area sts in
      let both = performed_both page m o.calls rest.calls b in
      record {
        answers = ap₂ {C = List StallAnswer} ◌++◌ u.0 more.answers;
        holds = rw both more.holds;
        counts =
            evaluations_both o.answers rest.answers
            ∙ ap₂ ◌+◌ (counted page m s b (part_of page (other s) area) st) more.counts
            ∙ sym (ap (λ (x : Recorded). taken x.answers) both ∙ taken_both l.answers (perform_from page m l.state rest.calls).answers);
      }

-- the step `elsewhere` leads to any area that has the stall's part as it is: so it stands for any call on the other stall, too
pub elsewhere_any : (page : Page) (s : Stall) (area x : List ℕ) → shared_length page ≤ length x → part_of page s x ≡ part_of page s area → written page s area x ≡ x
elsewhere_any page s area x l e = rw (le-leb (shared_length page) (length x) l) (ap (with_part page s x) (sym e) ∙ with_part_lem page s x)

-- an accepted opening
opened_alone : (o : Option ℕ) (page : Page) (s : Stall) (area : List ℕ) (d : Opened) (R E B k : ℕ) → (open_stall_as o page s area d).answer ≡ opened_with R E B k
    → (o ≡ none) × (d.answer ≡ opened_with R E B k)
opened_alone (some j) page s area d R E B k e = absurd (let z : ◌≡◌ {A = ℕ} 0 1 = cc in omega arith)
opened_alone none page s area d R E B k e = (refl, e)

pub stall_demand3 : StallDemand3
stall_demand3 a s qs area R E B k e steps =
    record {
      alone_keeps = K;
      part = stood.holds.part;
      answers = stood.answers;
      in_time = rw same K.in_time;
      bound_rests = λ f. K.bound_rests (sym same ∙ f);
      accepted = λ c h j f. K.accepted c h j (sym (ap (λ (r : List ℕ). (operation a r (evaluate c)).answer) whole) ∙ sym (ap (λ (l : Left). l.answer) (shared_is a ok s qs b t N after_area stood.holds c)) ∙ f);
      refusals = λ c h. ap (λ (u : Turn). u.answer) (turn_refused a ok s qs b t N after_area stood.holds c h);
      turns = λ c h. (
        turn_told (page_of a) first after_area c,
        turn_told (page_of a) second after_area c,
        ap (λ (u : Turn). u.answer) (turn_done a after_area c (both_ready a ok s qs b t N after_area stood.holds c h)),
      );
    }
  where
    r : List ℕ
    r = part_of (page_of a) s area

    m : List Bool
    m = closure (page_of a) qs

    o : (first_of (shared_causes a area) ≡ none) × ((open_of a qs r).answer ≡ opened_with R E B k)
    o = unfold open_stall in opened_alone (first_of (shared_causes a area)) (page_of a) s area (open_of a qs r) R E B k e

    ok : sound a ≡ true
    ok = not-false (sound a) (no_cause_holds (shared_causes a area) o.0).0

    long : shared_length (page_of a) ≤ length area
    long = leb-true (shared_length (page_of a)) (length area) (not-false (leb (shared_length (page_of a)) (length area)) (no_cause_holds (shared_causes a area) o.0).1.0)

    w : Proper (page_of a)
    w = sound_proper a ok

    nothing_past : drop (3 * (page_of a).conditions) r ≡ []
    nothing_past = drop_of_length-le r {i = 3 * (page_of a).conditions} (omega (arith, length_part (page_of a) s area long))

    opens : (open_of a qs r).run ≡ run_of (page_of a) m (start (page_of a) m)
    opens =
        unfold open_of in ap (λ (x : Option ℕ). (open_as x (page_of a) m (pass_count (page_of a) qs) r).run) (opened_none a qs r R E B k o.1)
        ∙ ap (λ (l : List ℕ). run_of (page_of a) m (start (page_of a) m) ++ l) nothing_past ∙ append-nil (run_of (page_of a) m (start (page_of a) m))

    opens_at : (open_stall a s qs area).run ≡ with_part (page_of a) s area (open_of a qs r).run
    opens_at = unfold open_stall in ap (λ (x : Option ℕ). (open_stall_as x (page_of a) s area (open_of a qs r)).run) o.0

    calls : List Call
    calls = (booked_of a s qs area steps).calls

    b : Worklist
    b = (perform_book (page_of a) qs calls).state

    t : ℕ
    t = taken (perform_book (page_of a) qs calls).answers

    after_area : List ℕ
    after_area = (steps_of a s qs area steps).area

    N : State (page_of a) w qs b t
    N = after (page_of a) w qs _ (plain_is (page_of a) w) calls

    K : RunKeeps a qs r R E B k calls
    K = demand3 a qs r R E B k o.1 calls

    held : Holds a ok s qs (start (page_of a) m) (open_stall a s qs area).run
    held =
        let l = ap length opens ∙ length_run (page_of a) m (start (page_of a) m) in
        rw opens_at (record {
          long = omega (arith, long, length_with (page_of a) s area long (open_of a qs r).run l);
          part = part_with (page_of a) s area long (open_of a qs r).run l ∙ opens;
        })

    stood : Stand a ok s qs (start (page_of a) m) (open_stall a s qs area).run steps
    stood = steps_stand a ok s qs steps (start (page_of a) m) 0 (invariant_first (page_of a) w qs _ (plain_is (page_of a) w)) (open_stall a s qs area).run held

    same : evaluations_in (steps_of a s qs area steps).answers ≡ taken (perform a (open_of a qs r).run calls).answers
    same = ap evaluations_in stood.answers ∙ stood.counts ∙ sym (ap taken K.answers)

    whole : part_of (page_of a) s after_area ≡ (perform a (open_of a qs r).run calls).run
    whole =
        stood.holds.part ∙ sym (append-nil (run_of (page_of a) m b))
        ∙ ap (λ (l : List ℕ). run_of (page_of a) m b ++ l) (sym nothing_past) ∙ sym K.area
