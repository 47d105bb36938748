-- The answers of evaluate, value and line held, cause by cause, in the code's own terms. Assumes nothing.
use mathlib.Core.Path.{◌≡◌, sym, ◌∙◌, ap, ap₂}
use mathlib.Core.Logic.{◌≢◌}
use mathlib.Core.Bool.{Bool, true, false, not, cond, true≢false}
use mathlib.Core.List.{List}
use mathlib.Core.Option.{none, some}
use Prim.Native.Nat.{ℕ, ◌≤◌, ◌<◌}
use native.Mathlib.Omega.{arith}
use Rattle.fixpoint.specs.Interval.{Interval, Within, Assign}
use Rattle.semantics.specs.Area.{sound, page_of, top_of, conditions_of}
use Rattle.semantics.specs.Call.{Call, evaluate, value, line_held, Answer, refused, changed, unchanged, valued, held_by}
use Rattle.semantics.specs.Grade.{lower}
use Rattle.semantics.specs.Holding.{first_with, line_holding}
use Rattle.semantics.specs.Operation.{Left, operation}
use Rattle.semantics.specs.RunArea.{interval_at, mark_at, worklist_of, run_sound}
use Rattle.semantics.specs.Table.{interval_of}
use Rattle.semantics.specs.Worklist.{lowest, holder, Status, status}
use Rattle.semantics.proofs.Areas.{held_at}
use Rattle.semantics.proofs.Drives.{lowest_some_of, lowest_none_of}
use Rattle.semantics.proofs.Operations.{page_unsound, run_unsound, evaluate_beyond, evaluate_idle, evaluate_done, value_beyond, value_unreached, value_done, line_beyond, line_unreached, line_done}
use Rattle.std.specs.Prelude.{Option, None, Some, is_some}
use Rattle.worklist.specs.Cells.{LowestAt, Lowest}
use Rattle.worklist.specs.Evaluation.{Evaluated}
use Rattle.worklist.proofs.Evaluation.{graded_of}
use Rattle.value.specs.Table.{EndTable}
use Rattle.ends.proofs.Mirrors.{high_table}
use Rattle.ends.proofs.Stores.{table_agrees}
use Rattle.body.specs.Body.{Body}
use Rattle.step.specs.Beside.{Beside}
use Rattle.body.specs.FirstLine.{FirstLine}
use Rattle.page.proofs.Head.{conditions_is}
use Rattle.refusal.specs.declared.Refusal.TheVariants.{PageNotSound, RunNotSound}
use Rattle.semantics.proofs.Workspaces.{drive_kept_10, drive_kept_14}
use Rattle.run.specs.Answers.{Answered, status_if}
use Rattle.run.specs.Checks.{Refuses}
use Rattle.page.specs.Solvable.{solvable}

pub answered : {left : Left} {x : Answer} {r : List ℕ} → left ≡ record { answer = x; run = r } → Answered left x r
answered e = record { answer_is = sym (ap (λ (l : Left). l.answer) e); run_is = sym (ap (λ (l : Left). l.run) e) }

module _ (a r : List ℕ) where
  pub refused_10 : sound a ≡ false → (k : Call) → Answered (operation a r k) (refused 10) r
  refused_10 e k = answered (page_unsound a r e k)

  module _ (ok : sound a ≡ true) where
    pub refused_14 : run_sound (page_of a) r ≡ false → (k : Call) → Answered (operation a r k) (refused 14) r
    refused_14 e k = answered (run_unsound a r ok e k)

    module _ (rs : run_sound (page_of a) r ≡ true) (c : ℕ) where
      pub evaluate_15 : conditions_of a ≤ c → Answered (operation a r (evaluate c)) (refused 15) r
      evaluate_15 h = answered (evaluate_beyond a r ok rs c (rw (conditions_is a) h))

      pub value_15 : conditions_of a ≤ c → refused 15 ≡ (operation a r (value c)).answer
      value_15 h = (answered (value_beyond a r ok rs c (rw (conditions_is a) h))).answer_is

      pub line_15 : conditions_of a ≤ c → refused 15 ≡ (operation a r (line_held c)).answer
      line_15 h = (answered (line_beyond a r ok rs c (rw (conditions_is a) h))).answer_is

      module _ (l : c < conditions_of a) where
        inside : c < (page_of a).conditions
        inside = rw (conditions_is a) l

        pub evaluate_16 : mark_at r c ≢ 2 → Answered (operation a r (evaluate c)) (refused 16) r
        evaluate_16 h = answered (evaluate_idle a r ok rs c inside h)

        pub value_17 : mark_at r c ≤ 0 → refused 17 ≡ (operation a r (value c)).answer
        value_17 h = (answered (value_unreached a r ok rs c inside h)).answer_is

        pub value_answers : 0 < mark_at r c → {s : Status} → s ≡ status (worklist_of (page_of a) r) → valued (interval_at r c) s ≡ (operation a r (value c)).answer
        value_answers h e = ap (valued (interval_at r c)) e ∙ (answered (value_done a r ok rs c inside h)).answer_is

        pub line_17 : mark_at r c ≤ 0 → refused 17 ≡ (operation a r (line_held c)).answer
        line_17 h = (answered (line_unreached a r ok rs c inside h)).answer_is

        pub line_answers : 0 < mark_at r c → {k : ℕ} → k ≡ holder (page_of a) (worklist_of (page_of a) r) c → held_by k ≡ (operation a r (line_held c)).answer
        line_answers h e = ap held_by e ∙ (answered (line_done a r ok rs c inside h)).answer_is

        pub evaluate_answers : mark_at r c ≡ 2 → {r' : List ℕ} {t : Bool} {k : ℕ} → Evaluated (page_of a) c r r' t × (k ≡ holder (page_of a) (worklist_of (page_of a) r) c)
            → {x : Answer} → cond t changed unchanged k ≡ x → Answered (operation a r (evaluate c)) x r'
        evaluate_answers h s e =
            let d = evaluate_done a r ok rs c inside h in
            record {
              answer_is = sym e ∙ ap₂ (λ (b : Bool) (j : ℕ). cond b changed unchanged j) s.0.answer s.1 ∙ sym (ap (λ (l : Left). l.answer) d);
              run_is = s.0.area ∙ sym (ap (λ (l : Left). l.run) d);
            }

-- 10 and 14 refuse every operation, and leave a workspace as it is
pub refuses_10 : (a r : List ℕ) → sound a ≡ false → Refuses a r PageNotSound
refuses_10 a r e = record { answers = refused_10 a r e; workspace = λ w. drive_kept_10 a r w e }

pub refuses_14 : (a r : List ℕ) → sound a ≡ true → run_sound (page_of a) r ≡ false → Refuses a r RunNotSound
refuses_14 a r ok e = record { answers = refused_14 a r ok e; workspace = λ w. drive_kept_14 a r w ok e }

-- the line that holds the low end of T of the intervals held
module _ {a r values : List ℕ} (ok : solvable a ≡ true) (rs : run_sound (page_of a) r ≡ true) (s : Beside a r values) where
  abbrev I : Assign
  I = interval_of (worklist_of (page_of a) r).intervals

  same_held : (d : ℕ) → d < conditions_of a → I d ≡ interval_at r d
  same_held d l = held_at (page_of a) r d (rw (conditions_is a) l)

  grades : (d : ℕ) → d < conditions_of a → Within (top_of a) (I d)
  grades d l = rw (same_held d l) ((graded_of a r ok rs).within d l)

  table_held : EndTable lower (top_of a) (conditions_of a) I values
  table_held = table_agrees lower (top_of a) (conditions_of a) (interval_at r) I values same_held s.table

  pub line_of_held : {c low high line : ℕ} → Body a values c low high → FirstLine a values c low line → line ≡ holder (page_of a) (worklist_of (page_of a) r) c
  unfolding line_holding page_of
  line_of_held {c} b f =
      f.is I table_held
      ∙ ap (λ (i : Interval). first_with (top_of a) I c i.low 2 (page_of a).lines) (b.is I table_held (high_table (top_of a) (conditions_of a) I values s.long grades table_held))

-- the lowest waiting condition
module _ (a r : List ℕ) where
  pub rest_of : Lowest (conditions_of a) r None → lowest (worklist_of (page_of a) r) ≡ none
  rest_of s = lowest_none_of (page_of a) r (λ j m. s j (omega (arith, conditions_is a)))

  pub waits_of : {k : ℕ} → LowestAt (conditions_of a) r k → lowest (worklist_of (page_of a) r) ≡ some k
  waits_of {k} s = lowest_some_of (page_of a) r k (rw (conditions_is a) s.within) s.found s.below

  -- whether a run is at rest, by the lowest waiting condition
  pub status_of : (t : Bool) (k : Option ℕ) → is_some k ≡ not t → Lowest (conditions_of a) r k → status_if t ≡ status (worklist_of (page_of a) r)
  status_of true None e s = rw (rest_of s)
  status_of true (Some k) e s = absurd (true≢false e)
  status_of false None e s = absurd (true≢false (sym e))
  status_of false (Some k) e s = rw (waits_of s)
