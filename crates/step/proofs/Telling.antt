-- Which line an evaluation tells, in the code's own terms. Assumes nothing.
use mathlib.Core.Path.{◌≡◌, refl, sym, ◌∙◌, ap}
use mathlib.Core.Logic.{◌≢◌}
use mathlib.Core.Bool.{Bool, true}
use mathlib.Core.List.{List}
use Prim.Native.Nat.{ℕ, ◌+◌, ◌*◌, ◌-◌, ◌≤◌, ◌<◌}
use native.Mathlib.Decide.{ℕ_discrete}
use native.Mathlib.Omega.{arith}
use lib.ListN.{length, get_or, set, length-set, drop}
use borrow.Author.Tests.{eq-eqb, ne_eqb}
use Rattle.fixpoint.specs.ChaoticIteration.{put}
use Rattle.fixpoint.specs.Interval.{Interval, Within, Assign}
use Rattle.semantics.specs.Area.{page_of, top_of, conditions_of}
use Rattle.semantics.specs.Grade.{lower}
use Rattle.semantics.specs.Holding.{first_with, line_holding}
use Rattle.semantics.specs.Page.{Page}
use Rattle.semantics.specs.RunArea.{interval_at, mark_at, worklist_of, reached_of, run_sound}
use Rattle.semantics.specs.Table.{interval_of, member}
use Rattle.semantics.specs.Worklist.{Worklist, evaluated, holder}
use Rattle.semantics.proofs.Areas.{Encodable, sound_encodable, state_back, held_at, waits_at}
use Rattle.semantics.proofs.Steps.{puts_same, puts_other, encodable_evaluated}
use Rattle.page.proofs.Head.{conditions_is}
use Rattle.value.specs.Table.{end_of, EndTable}
use Rattle.ends.specs.Mirror.{Mirrored}
use Rattle.ends.proofs.Mirrors.{both_grades}
use Rattle.ends.proofs.Stores.{table_stored}
use Rattle.worklist.specs.Evaluation.{Evaluated}
use Rattle.worklist.proofs.Evaluation.{graded_of}
use Rattle.body.specs.FirstLine.{FirstLine}
use Rattle.step.specs.Before.{HeldBefore, ToldBefore}
use Rattle.page.specs.Solvable.{solvable}
use Rattle.page.proofs.Solvable.{solvable_proper}

-- the table with the two numbers of c as they were
module _ (a run values : List ℕ) (c low high : ℕ) (l : c < conditions_of a) (w : 2 * conditions_of a ≤ length values) (t : EndTable lower (top_of a) (conditions_of a) (interval_at run) values) where
  abbrev restored : List ℕ
  restored = set (set values (2 * c) low) (2 * c + 1) (top_of a - high)

  -- it holds every assignment that was held before
  module _ (I : Assign) (here : I c ≡ record { low = low; high = high }) (others : (d : ℕ) → d < conditions_of a → d ≢ c → I d ≡ interval_at run d) where
    table_before : EndTable lower (top_of a) (conditions_of a) I restored
    table_before =
        table_stored lower (top_of a) (conditions_of a) (interval_at run) I values c others l w t
        (ap (end_of lower) (sym here)) (ap (λ (i : Interval). top_of a - i.high) (sym here))

    -- and its numbers are grades
    module _ (ok : solvable a ≡ true) (rs : run_sound (page_of a) run ≡ true) (low_in : low ≤ top_of a) (high_in : high ≤ top_of a) where
      grades : (d : ℕ) → d < conditions_of a → Within (top_of a) (I d)
      grades d m =
          elim (ℕ_discrete d c) [
            | yes e ↦ rw e (rw here (record { low_in = low_in; high_in = high_in }))
            | no e ↦ rw (others d m e) ((graded_of a run ok rs).within d m)
          ]

      grades_before : Mirrored (top_of a) (conditions_of a) restored
      grades_before =
          both_grades (top_of a) (conditions_of a) I restored (omega (arith, length-set (set values (2 * c) low) (2 * c + 1) (top_of a - high), length-set values (2 * c) low)) grades table_before

  -- one such assignment is that of the run area with [low; high] at c
  module _ (ok : solvable a ≡ true) (rs : run_sound (page_of a) run ≡ true) (low_in : low ≤ top_of a) (high_in : high ≤ top_of a) where
    pub restored_grades : Mirrored (top_of a) (conditions_of a) restored
    unfolding put
    restored_grades =
        let I = put (interval_at run) c (record { low = low; high = high }) in
        grades_before I (rw (eq-eqb c c refl) refl) (λ d m n. rw (ne_eqb d c n) refl) ok rs low_in high_in

  pub told_before : {r : ℕ} → FirstLine a restored c (get_or run (3 * c) 0) r → ToldBefore a run c low high r
  unfolding line_holding page_of
  told_before f =
      record {
        is = λ I h. f.is I (table_before I h.here h.others) ∙ ap (λ (x : ℕ). first_with (top_of a) I c x 2 (page_of a).lines) h.new_low;
      }

-- after an evaluation of c: what was held before it, and so what it tells
module _ (a run : List ℕ) (ok : solvable a ≡ true) (rs : run_sound (page_of a) run ≡ true) (c : ℕ) (l₀ : c < conditions_of a) (two : mark_at run c ≡ 2) {run' : List ℕ} {t : Bool} (v : Evaluated (page_of a) c run run' t) where
  abbrev page : Page
  page = page_of a

  abbrev m : List Bool
  m = reached_of (page_of a) run

  abbrev b : Worklist
  b = worklist_of (page_of a) run

  l : c < (page_of a).conditions
  l = rw (conditions_is a) l₀

  waits : member b.waiting c ≡ true
  waits = waits_at page run c l ∙ eq-eqb (mark_at run c) 2 two

  fits : Encodable page m (evaluated page m b c)
  fits = encodable_evaluated page (solvable_proper a ok) m b (sound_encodable page run rs) c l waits

  -- the intervals after it
  after : (d : ℕ) → d < (page_of a).conditions → interval_at run' d ≡ interval_of (evaluated page m b c).intervals d
  after d k =
      sym (held_at page run' d k)
      ∙ ap (λ (s : Worklist). interval_of s.intervals d) (ap (worklist_of page) v.area ∙ state_back page m (evaluated page m b c) fits (drop (3 * page.conditions) run))

  held_before : HeldBefore a run' c (get_or run (3 * c) 0) (get_or run (3 * c + 1) 0) (interval_of (worklist_of (page_of a) run).intervals)
  held_before =
      record {
        here = held_at page run c l;
        others = λ d k n. let k' : d < page.conditions = rw (conditions_is a) k in sym (after d k' ∙ puts_other page (solvable_proper a ok) m b (sound_encodable page run rs) c l waits d n);
        new_low = ap (λ (i : Interval). i.low) (after c l ∙ puts_same page (solvable_proper a ok) m b (sound_encodable page run rs) c l waits);
      }

  pub told_holder : {r : ℕ} → ToldBefore a run' c (get_or run (3 * c) 0) (get_or run (3 * c + 1) 0) r → r ≡ holder (page_of a) (worklist_of (page_of a) run) c
  told_holder f = f.is _ held_before
