-- A drive, evaluation by evaluation, in the code's own terms. Assumes nothing.
use mathlib.Core.Path.{◌≡◌, refl, sym, ◌∙◌, ap, ap₂}
use mathlib.Core.Bool.{Bool, true, false}
use mathlib.Core.List.{List, ◌++◌}
use Prim.Native.Nat.{ℕ, suc, ◌+◌, ◌*◌, ◌-◌, ◌≤◌, ◌<◌}
use native.Mathlib.Omega.{arith}
use lib.ListN.{get_or, drop}
use Rattle.semantics.specs.Area.{sound, page_of, top_of, conditions_of}
use Rattle.semantics.specs.Call.{drove, Answer, outcome}
use Rattle.semantics.specs.Operation.{Left, drive_of}
use Rattle.semantics.specs.Page.{Page}
use Rattle.fixpoint.specs.Interval.{Within}
use Rattle.semantics.specs.RunArea.{interval_at, mark_at, run_of, worklist_of, reached_of, run_sound}
use Rattle.semantics.specs.Worklist.{Worklist, evaluated, holder, Status, status_as, status, Driven, last_of, one_more, driven}
use Rattle.semantics.proofs.Areas.{Encodable, sound_encodable, state_back, reached_back, rest_back, reencoded, waits_at}
use Rattle.semantics.proofs.Drives.{driven_none, driven_spent, driven_next, driven_line}
use Rattle.semantics.proofs.Operations.{drive_done}
use Rattle.semantics.proofs.Steps.{encodable_evaluated}
use borrow.Author.Tests.{eq-eqb}
use Rattle.std.specs.Prelude.{Option, None, Some}
use Rattle.worklist.specs.Cells.{LowestAt, Lowest}
use Rattle.worklist.specs.Evaluation.{Evaluated}
use Rattle.worklist.proofs.Evaluation.{graded_of}
use Rattle.step.specs.Before.{ToldBefore}
use Rattle.step.specs.declared.Before.{Before}
use Rattle.step.specs.Beside.{Beside}
use Rattle.step.proofs.Telling.{told_holder}
use Rattle.page.proofs.Head.{conditions_is}
use Rattle.run.specs.Answers.{Answered}
use Rattle.run.specs.Steps.{drive_left, InGrades, LastInGrades, Ready, LastLine, Stopped}
use Rattle.run.proofs.Answering.{rest_of, waits_of}
use Rattle.page.specs.Solvable.{solvable}
use Rattle.page.proofs.Solvable.{solvable_proper}

module _ (a run₀ : List ℕ) (allowance : ℕ) where
  abbrev page : Page
  page = page_of a

  abbrev m : List Bool
  m = reached_of (page_of a) run₀

  -- the whole drive, and the one from an area on
  abbrev whole : Driven
  whole = driven (page_of a) (reached_of (page_of a) run₀) allowance (worklist_of (page_of a) run₀)

  abbrev onward : List ℕ → ℕ → Driven
  onward run taken = driven (page_of a) (reached_of (page_of a) run₀) (allowance - taken) (worklist_of (page_of a) run)

  left_done : drive_left a run₀ allowance
      ≡ record {
        answer = drove whole.taken whole.line (status whole.state);
        run = run_of (page_of a) (reached_of (page_of a) run₀) whole.state ++ drop (3 * (page_of a).conditions) run₀;
      }
  unfolding drive_left outcome
  left_done = refl

  -- nothing refuses a drive on sound areas
  pub drive_left_lem : sound a ≡ true → run_sound (page_of a) run₀ ≡ true → drive_of a run₀ allowance ≡ drive_left a run₀ allowance
  drive_left_lem ok rs = drive_done a run₀ ok rs allowance ∙ sym left_done

  pub drive_answers : sound a ≡ true → run_sound (page_of a) run₀ ≡ true → {x : Answer} {run : List ℕ} → Answered (drive_left a run₀ allowance) x run
      → Answered (drive_of a run₀ allowance) x run
  drive_answers ok rs h = rw (drive_left_lem ok rs) h

  -- the last evaluation, of a condition that held b before: what is told of that is the line `told`; 0 where there is none
  pub record LastTold (run : List ℕ) (b : Before) (told : ℕ) : Type 0 where
    pub grades : InGrades a b
    pub tells : (line : ℕ) → ToldBefore a run b.condition b.ends.low b.ends.high line → line ≡ told

  abbrev pub Last : List ℕ → Option Before → ℕ → Type 0
  Last run None told = told ≡ 0
  Last run (Some b) told = LastTold run b told

  last_line : (run : List ℕ) (before : Option Before) {told line : ℕ} → Last run before told → LastLine a run before line → line ≡ told
  last_line run None t f = f ∙ sym t
  last_line run (Some b) t f = t.tells _ f

  last_grades : (run : List ℕ) (before : Option Before) (told : ℕ) → Last run before told → LastInGrades a before
  last_grades run None told t = tt
  last_grades run (Some b) told t = t.grades

  -- After so many evaluations: the whole drive is these and the one from here on.
  pub record Driving (run : List ℕ) (taken : ℕ) (before : Option Before) : Type 0 where
    pub page_solvable : solvable a ≡ true
    pub run_sound : run_sound (page_of a) run ≡ true
    pub reached : reached_of (page_of a) run ≡ reached_of (page_of a) run₀
    pub beyond : drop (3 * (page_of a).conditions) run ≡ drop (3 * (page_of a).conditions) run₀
    pub within : taken ≤ allowance
    pub count : (driven (page_of a) (reached_of (page_of a) run₀) allowance (worklist_of (page_of a) run₀)).taken
        ≡ taken + (driven (page_of a) (reached_of (page_of a) run₀) (allowance - taken) (worklist_of (page_of a) run)).taken
    pub state : (driven (page_of a) (reached_of (page_of a) run₀) allowance (worklist_of (page_of a) run₀)).state
        ≡ (driven (page_of a) (reached_of (page_of a) run₀) (allowance - taken) (worklist_of (page_of a) run)).state
    pub told : ℕ
    pub line : (driven (page_of a) (reached_of (page_of a) run₀) allowance (worklist_of (page_of a) run₀)).line
        ≡ last_of (driven (page_of a) (reached_of (page_of a) run₀) (allowance - taken) (worklist_of (page_of a) run)).taken told
        (driven (page_of a) (reached_of (page_of a) run₀) (allowance - taken) (worklist_of (page_of a) run)).line
    pub last : Last run before told

  pub driving_first : solvable a ≡ true → run_sound (page_of a) run₀ ≡ true → Driving run₀ 0 None
  driving_first ok rs =
      let z : allowance - 0 ≡ allowance = omega arith in
      record {
        page_solvable = ok;
        run_sound = rs;
        reached = refl;
        beyond = refl;
        within = omega arith;
        count = rw z (omega arith);
        state = rw z;
        told = 0;
        line = rw z (driven_line page m (worklist_of page run₀) allowance);
        last = refl;
      }

  module _ {run : List ℕ} {taken : ℕ} {before : Option Before} (s : Driving run taken before) where
    -- the line of the last evaluation is the one told
    line_is : {line : ℕ} → LastLine a run before line → line ≡ s.told
    line_is f = last_line run before s.last f

    -- the run is at rest, or the allowance is used: the drive ends here
    ends : onward run taken ≡ record { taken = 0; line = 0; state = worklist_of page run } → {x : Status} → status (worklist_of page run) ≡ x
        → {line : ℕ} → line ≡ s.told → Answered (drive_left a run₀ allowance) (drove taken line x) run
    ends e {x} q {line} k =
        let d = left_done in
        let n : whole.taken ≡ taken = s.count ∙ ap (λ (o : Driven). taken + o.taken) e ∙ omega arith in
        let j : whole.line ≡ line = s.line ∙ ap (λ (o : Driven). last_of o.taken s.told o.line) e ∙ sym k in
        let t : whole.state ≡ worklist_of page run = s.state ∙ ap (λ (o : Driven). o.state) e in
        record {
          answer_is = sym (ap (λ (l : Left). l.answer) d ∙ rw (n, j) (ap (drove taken line) (ap status t ∙ q)));
          run_is = sym (ap (λ (l : Left). l.run) d ∙ ap (λ (b : Worklist). run_of page m b ++ drop (3 * page.conditions) run₀) t
              ∙ ap₂ (λ (k : List Bool) (z : List ℕ). run_of page k (worklist_of page run) ++ z) (sym s.reached) (sym s.beyond)
              ∙ reencoded page run s.run_sound);
        }

    -- what the last evaluation's line is worked from
    ready : {values : List ℕ} → Beside a run values → Ready a run values before
    ready b =
        record {
          run_sound = s.run_sound;
          long = b.long;
          table = b.table;
          last = last_grades run before s.told s.last;
        }

    module _ {values : List ℕ} (b : Beside a run values) where
      pub driving_rests : Lowest (conditions_of a) run None → Stopped a run₀ allowance run values taken true before
      driving_rests low =
          let e = rest_of a run low in
          let n = driven_none page m (worklist_of page run) (allowance - taken) e in
          record {
            ready = ready b;
            drives = record { line = s.told; answered = ends n (ap status_as e) refl };
            answers = λ line f. ends n (ap status_as e) (line_is f);
          }

      pub driving_spends : {c : ℕ} → LowestAt (conditions_of a) run c → allowance ≤ taken → Stopped a run₀ allowance run values taken false before
      driving_spends low k =
          let n = driven_spent page m (worklist_of page run) (allowance - taken) (omega arith) in
          let e = waits_of a run low in
          record {
            ready = ready b;
            drives = record { line = s.told; answered = ends n (ap status_as e) refl };
            answers = λ line f. ends n (ap status_as e) (line_is f);
          }

    module _ {c : ℕ} (low : LowestAt (conditions_of a) run c) where
      -- one evaluation of the lowest waiting condition
      pub driving_next : taken < allowance → {run' : List ℕ} {t : Bool} → Evaluated (page_of a) c run run' t
          → {b : Before} → (b.condition ≡ c) × (b.ends.low ≡ get_or run (3 * c) 0) × (b.ends.high ≡ get_or run (3 * c + 1) 0) → Driving run' (taken + 1) (Some b)
      driving_next k {run'} v {b} q =
          record {
            page_solvable = s.page_solvable;
            run_sound = v.run_sound;
            reached = ap (reached_of page) v.area ∙ reached_back page (reached_of page run) next fits tail ∙ s.reached;
            beyond = ap (drop (3 * page.conditions)) v.area ∙ rest_back page (reached_of page run) next fits tail ∙ s.beyond;
            within = omega arith;
            count = s.count ∙ ap (λ (o : Driven). taken + o.taken) step ∙ omega arith;
            state = s.state ∙ ap (λ (o : Driven). o.state) step;
            told = holder page here c;
            line = s.line ∙ ap (λ (o : Driven). last_of o.taken s.told o.line) step;
            last = record {
              grades = record { inside = rw q.0 low.within; low_in = rw q.1 grades.low_in; high_in = rw q.2 grades.high_in };
              tells = λ line f. told_holder a run s.page_solvable s.run_sound c low.within low.found v (rw (q.0, q.1, q.2) at f);
            };
          }
        where
          grades : Within (top_of a) (interval_at run c)
          grades = (graded_of a run s.page_solvable s.run_sound).within c low.within

          here : Worklist
          here = worklist_of (page_of a) run

          next : Worklist
          next = evaluated (page_of a) (reached_of (page_of a) run) (worklist_of (page_of a) run) c

          tail : List ℕ
          tail = drop (3 * (page_of a).conditions) run

          inside : c < page.conditions
          inside = rw (conditions_is a) low.within

          fits : Encodable page (reached_of page run) next
          fits = encodable_evaluated page (solvable_proper a s.page_solvable) (reached_of page run) here (sound_encodable page run s.run_sound) c inside (waits_at page run c inside ∙ eq-eqb (mark_at run c) 2 low.found)

          held : worklist_of page run' ≡ evaluated page m here c
          held = ap (worklist_of page) v.area ∙ state_back page (reached_of page run) next fits tail ∙ ap (λ (k : List Bool). evaluated page k here c) s.reached

          step : onward run taken ≡ one_more (holder page here c) (onward run' (taken + 1))
          step =
              let e : allowance - taken ≡ suc (allowance - (taken + 1)) = omega arith in
              ap (λ (j : ℕ). driven page m j here) e ∙ driven_next page m here (allowance - (taken + 1)) c (waits_of a run low)
              ∙ ap (λ (b : Worklist). one_more (holder page here c) (driven page m (allowance - (taken + 1)) b)) (sym held)
