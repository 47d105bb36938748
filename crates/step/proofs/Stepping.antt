-- An evaluation and what is held beside the areas, in the code's own terms. Assumes nothing.
use mathlib.Core.Path.{◌≡◌, refl, sym, ◌∙◌, ap}
use mathlib.Core.Logic.{◌≢◌}
use mathlib.Core.Bool.{true, false, not}
use mathlib.Core.List.{List}
use Prim.Native.Nat.{ℕ, ◌+◌, ◌*◌, ◌-◌, ◌≤◌, ◌<◌}
use native.Mathlib.Decide.{ℕ_discrete}
use native.Mathlib.Omega.{arith}
use lib.ListN.{length, set, length-set}
use lib.Seq.{set-get_or}
use borrow.Author.Tests.{not-false}
use Rattle.fixpoint.specs.Interval.{same, Interval}
use Rattle.fixpoint.proofs.Evaluation.{same_true}
use Rattle.semantics.specs.Area.{page_of, top_of, conditions_of}
use Rattle.semantics.specs.Grade.{lower}
use Rattle.semantics.specs.RunArea.{interval_at, mark_at, run_sound}
use Rattle.page.specs.Graded.{BodyValue}
use Rattle.page.proofs.Head.{conditions_is}
use Rattle.value.specs.Table.{end_of}
use Rattle.ends.specs.Mirror.{Mirrored}
use Rattle.ends.proofs.Mirrors.{high_table, both_grades}
use Rattle.ends.proofs.Stores.{table_agrees, table_stored}
use Rattle.bits.specs.Words.{Removed}
use Rattle.worklist.specs.Evaluation.{stored}
use Rattle.worklist.specs.Waiting.{StillMatches}
use Rattle.worklist.proofs.Evaluation.{graded_of, long_of, stored_apart, stored_interval, stored_mark, stored_mark_apart, evaluated_changed, evaluated_same}
use Rattle.worklist.proofs.Matching.{match_removed, still_then}
use Rattle.body.specs.Body.{Body}
use Rattle.step.specs.Beside.{Beside, Changed, EvaluatedBeside}
use Rattle.page.specs.Solvable.{solvable}

-- the mark alone stored, where the interval does not differ
mark_alone : (run : List ℕ) (c low high mark : ℕ) → same (interval_at run c) (record { low = low; high = high }) ≡ true → set run (3 * c + 2) mark ≡ stored c low high mark run
unfolding stored
mark_alone run c low high mark e =
    let q = same_true (interval_at run c) (record { low = low; high = high }) e in
    sym (rw (ap (λ (i : Interval). i.low) (sym q), ap (λ (i : Interval). i.high) (sym q)) (rw (set-get_or run (3 * c) 0, set-get_or run (3 * c + 1) 0)))

module _ {a run values : List ℕ} (ok : solvable a ≡ true) (rs : run_sound (page_of a) run ≡ true) (s : Beside a run values) where
  -- both ends of every literal are grades
  pub beside_grades : Mirrored (top_of a) (conditions_of a) values
  beside_grades = both_grades (top_of a) (conditions_of a) (interval_at run) values s.long (graded_of a run ok rs).within s.table

  module _ {c : ℕ} (l : c < conditions_of a) (two : mark_at run c ≡ 2) {p q : ℕ} (v : Body a values c p q) where
    body : BodyValue a run c p q
    body =
        record {
          low_in = v.low_in;
          high_in = v.high_in;
          is = v.is (interval_at run) s.table (high_table (top_of a) (conditions_of a) (interval_at run) values s.long (graded_of a run ok rs).within s.table);
        }

    pub step_room : 3 * c + 3 ≤ length run
    step_room = omega (arith, long_of a run rs)

    -- c is taken out of the set, and waits no longer
    removed : {words words₁ : List ℕ} → Removed c words words₁ → StillMatches (conditions_of a) run words (stored c p q 1 run) words₁
    removed r =
        record {
          kept = λ w. match_removed w r (λ e. omega (arith, stored_mark run c p q 1 step_room)) (λ k b d. stored_mark_apart run c p q 1 k d);
        }

    -- c changes: its cell and its literals are stored, and its dependants wait
    pub step_changed : {words words₁ run' words' values' : List ℕ} → true ≡ not (same (interval_at run c) (record { low = p; high = q })) → Removed c words words₁
        → Changed a c p q run words₁ values run' words' values' → EvaluatedBeside a c run words run' words' values' true
    step_changed {words} {words₁} {run'} {words'} {values'} d r k =
        record {
          evaluated = evaluated_changed a run ok rs c l two body d refl refl k.marked;
          beside = record {
            long = omega (arith, s.long, ap length k.table, length-set (set values (2 * c) p) (2 * c + 1) (top_of a - q), length-set values (2 * c) p);
            table = rw k.table (table_stored lower (top_of a) (conditions_of a) (interval_at run) (interval_at run') values c apart l s.long s.table (ap (end_of lower) (sym here)) (ap (λ (i : Interval). top_of a - i.high) (sym here)));
          };
          set_kept = still_then (removed r) k.set_kept;
        }
      where
        here : interval_at run' c ≡ record { low = p; high = q }
        here = k.marked.intervals c (rw (conditions_is a) l) ∙ stored_interval run c p q 1 step_room

        apart : (d : ℕ) → d < conditions_of a → d ≢ c → interval_at run' d ≡ interval_at run d
        apart d m n = k.marked.intervals d (rw (conditions_is a) m) ∙ stored_apart run c p q 1 d n

    -- c does not change: its mark is stored
    pub step_same : {words words₁ : List ℕ} → false ≡ not (same (interval_at run c) (record { low = p; high = q })) → Removed c words words₁
        → EvaluatedBeside a c run words (set run (3 * c + 2) 1) words₁ values false
    step_same d r =
        rw (mark_alone run c p q 1 alike)
        (record {
          evaluated = evaluated_same a run ok rs c l two body d refl refl;
          beside = record { long = s.long; table = table_agrees lower (top_of a) (conditions_of a) (interval_at run) (interval_at (stored c p q 1 run)) values held s.table };
          set_kept = removed r;
        })
      where
        alike : same (interval_at run c) (record { low = p; high = q }) ≡ true
        alike = not-false (same (interval_at run c) (record { low = p; high = q })) (sym d)

        held : (d : ℕ) → d < conditions_of a → interval_at (stored c p q 1 run) d ≡ interval_at run d
        held d m =
            elim (ℕ_discrete d c) [
              | yes e ↦ rw e (stored_interval run c p q 1 step_room ∙ sym (same_true (interval_at run c) (record { low = p; high = q }) alike))
              | no e ↦ stored_apart run c p q 1 d e
            ]
