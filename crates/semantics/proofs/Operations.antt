-- What evaluate, drive, value and line held answer and leave on areas, cause by cause. Assumes nothing.
use mathlib.Core.Path.{◌≡◌, refl, ◌∙◌, ap}
use mathlib.Core.Logic.{◌≢◌}
use mathlib.Core.Bool.{Bool, true, false, cond}
use mathlib.Core.List.{List, ◌++◌}
use Prim.Native.Nat.{ℕ, ◌*◌, ◌≤◌, ◌<◌}
use native.Mathlib.Omega.{arith}
use lib.ListN.{drop}
use borrow.Author.Tests.{le-leb, lt-leb, eq-eqb, ne_eqb}
use Rattle.semantics.specs.Area.{sound, page_of}
use Rattle.semantics.specs.Call.{Call, evaluate, drive, value, line_held, Answer, refused, changed, unchanged, drove, valued, held_by, Outcome, outcome}
use Rattle.semantics.specs.Operation.{operation}
use Rattle.semantics.specs.Page.{Page}
use Rattle.semantics.specs.RunArea.{run_of, interval_at, mark_at, worklist_of, reached_of, run_sound}
use Rattle.semantics.specs.Worklist.{Worklist, changes, evaluated, holder, status, driven}
use Rattle.semantics.proofs.Areas.{held_at, waits_at, reached_at, reencoded}

module _ (a r : List ℕ) where
  pub page_unsound : sound a ≡ false → (k : Call) → operation a r k ≡ record { answer = refused 10; run = r }
  unfolding operation
  page_unsound e k = rw e

  module _ (ok : sound a ≡ true) where
    pub run_unsound : run_sound (page_of a) r ≡ false → (k : Call) → operation a r k ≡ record { answer = refused 14; run = r }
    unfolding operation
    run_unsound e k = rw (ok, e)

    module _ (rs : run_sound (page_of a) r ≡ true) where
      abbrev page : Page
      page = page_of a

      abbrev m : List Bool
      m = reached_of (page_of a) r

      abbrev b : Worklist
      b = worklist_of (page_of a) r

      -- with no cause before 15, the outcome on the state held
      works : (k : Call) {o : Outcome} → outcome page m b k ≡ o → operation a r k ≡ record { answer = o.answer; run = run_of page m o.state ++ drop (3 * page.conditions) r }
      unfolding operation
      works k e = rw (ok, rs) (rw e)

      -- an outcome that leaves the state leaves the area
      keeps : (k : Call) (x : Answer) → outcome page m b k ≡ record { answer = x; state = b } → operation a r k ≡ record { answer = x; run = r }
      keeps k x e = works k e ∙ ap (λ (l : List ℕ). record { answer = x; run = l }) (reencoded page r rs)

      module _ (c : ℕ) where
        pub evaluate_beyond : (page_of a).conditions ≤ c → operation a r (evaluate c) ≡ record { answer = refused 15; run = r }
        unfolding outcome
        evaluate_beyond h = keeps (evaluate c) (refused 15) (rw (le-leb page.conditions c h))

        pub value_beyond : (page_of a).conditions ≤ c → operation a r (value c) ≡ record { answer = refused 15; run = r }
        unfolding outcome
        value_beyond h = keeps (value c) (refused 15) (rw (le-leb page.conditions c h))

        pub line_beyond : (page_of a).conditions ≤ c → operation a r (line_held c) ≡ record { answer = refused 15; run = r }
        unfolding outcome
        line_beyond h = keeps (line_held c) (refused 15) (rw (le-leb page.conditions c h))

        module _ (l : c < (page_of a).conditions) where
          pub evaluate_idle : mark_at r c ≢ 2 → operation a r (evaluate c) ≡ record { answer = refused 16; run = r }
          unfolding outcome
          evaluate_idle h = keeps (evaluate c) (refused 16) (rw (lt-leb page.conditions c l, waits_at page r c l ∙ ne_eqb (mark_at r c) 2 h))

          pub evaluate_done : mark_at r c ≡ 2
              → operation a r (evaluate c)
              ≡ record {
                answer = cond (changes (page_of a) (worklist_of (page_of a) r) c) changed unchanged (holder (page_of a) (worklist_of (page_of a) r) c);
                run = run_of (page_of a) (reached_of (page_of a) r) (evaluated (page_of a) (reached_of (page_of a) r) (worklist_of (page_of a) r) c) ++ drop (3 * (page_of a).conditions) r;
              }
          unfolding outcome
          evaluate_done h = works (evaluate c) (rw (lt-leb page.conditions c l, waits_at page r c l ∙ eq-eqb (mark_at r c) 2 h))

          pub value_unreached : mark_at r c ≤ 0 → operation a r (value c) ≡ record { answer = refused 17; run = r }
          unfolding outcome
          value_unreached h = keeps (value c) (refused 17) (rw (lt-leb page.conditions c l, reached_at page r c l ∙ lt-leb 1 (mark_at r c) (omega arith)))

          pub value_done : 0 < mark_at r c → operation a r (value c) ≡ record { answer = valued (interval_at r c) (status (worklist_of (page_of a) r)); run = r }
          unfolding outcome
          value_done h =
              keeps (value c) (valued (interval_at r c) (status b))
              (rw (lt-leb page.conditions c l, reached_at page r c l ∙ le-leb 1 (mark_at r c) (omega arith), held_at page r c l))

          pub line_unreached : mark_at r c ≤ 0 → operation a r (line_held c) ≡ record { answer = refused 17; run = r }
          unfolding outcome
          line_unreached h = keeps (line_held c) (refused 17) (rw (lt-leb page.conditions c l, reached_at page r c l ∙ lt-leb 1 (mark_at r c) (omega arith)))

          pub line_done : 0 < mark_at r c → operation a r (line_held c) ≡ record { answer = held_by (holder (page_of a) (worklist_of (page_of a) r) c); run = r }
          unfolding outcome
          line_done h =
              keeps (line_held c) (held_by (holder page b c))
              (rw (lt-leb page.conditions c l, reached_at page r c l ∙ le-leb 1 (mark_at r c) (omega arith)))

      pub drive_done : (k : ℕ)
          → operation a r (drive k)
          ≡ record {
            answer = drove (driven (page_of a) (reached_of (page_of a) r) k (worklist_of (page_of a) r)).taken (driven (page_of a) (reached_of (page_of a) r) k (worklist_of (page_of a) r)).line (status (driven (page_of a) (reached_of (page_of a) r) k (worklist_of (page_of a) r)).state);
            run = run_of (page_of a) (reached_of (page_of a) r) (driven (page_of a) (reached_of (page_of a) r) k (worklist_of (page_of a) r)).state ++ drop (3 * (page_of a).conditions) r;
          }
      unfolding outcome
      drive_done k = works (drive k) refl
