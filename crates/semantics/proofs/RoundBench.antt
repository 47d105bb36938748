-- The counts of rounds hold: one test over the list, computed. Assumes nothing.
use mathlib.Core.Path.{◌≡◌, refl, sym, ◌∙◌, ap}
use mathlib.Core.Bool.{Bool, true, false, not, ◌&&◌, ◌||◌, true≢false}
use mathlib.Core.List.{List, [], ◌∷◌}
use Prim.Native.Nat.{ℕ, suc, ◌<◌}
use borrow.Author.Tests.{eq-eqb, not-true}
use Rattle.fixpoint.specs.Interval.{same, Interval, Assign}
use Rattle.fixpoint.specs.KnowledgeOrder.{Alike}
use Rattle.fixpoint.specs.LeastFixpoint.{iter}
use Rattle.fixpoint.specs.Support.{roof, raise, close}
use Rattle.semantics.specs.Area.{area_of, page_of, sound_to, sound, kind, span, lines_of, all_under, lines_ok, line_codes, every, defaults_ok}
use Rattle.semantics.specs.Body.{bodies, unknown_by_default, bodyless, largest_of, T}
use Rattle.semantics.specs.Grade.{rounding, divided, combine, fold_from, fold_all, weighted, negated}
use Rattle.semantics.specs.Page.{mentions, lines_name, Page, defaults}
use Rattle.semantics.proofs.Proper.{Proper}
use Rattle.semantics.specs.Reading.{pass, passes, closure}
use Rattle.semantics.proofs.Rows.{page1, page3, page4, page5, page6}
use Rattle.semantics.specs.Table.{interval_of, member, table_from, any_below, all_below, listed, all_unknown}
use Rattle.semantics.proofs.RoundRows.{CountRow, counts, Counts, AllCount, chain, open0, loops, count_rows}
use Rattle.semantics.specs.Rounds.{IsRounds}
use Rattle.fixpoint.proofs.Evaluation.{same_true}
use Rattle.semantics.proofs.Bench.{proper}
use Rattle.semantics.proofs.Closure.{reached_closed}
use Rattle.semantics.proofs.Computed.{rounds_iter}
use Rattle.semantics.proofs.Readings.{page_system}
use Rattle.semantics.proofs.Soundness.{both_true, Every, every_true}
use Rattle.semantics.proofs.Sweeps.{sweep, sweeps, support_list, close_list, rounds}
use Rattle.semantics.proofs.RoundsReached.{count_counted}
use Rattle.semantics.proofs.Table.{all_true, all_at}

-- I and J are the same on the members of m
unfoldable pub like_at : List Bool → Assign → Assign → ℕ → Bool
like_at m I J c = not (member m c) || same (I c) (J c)

unfoldable pub like : ℕ → List Bool → Assign → Assign → Bool
like n m I J = all_below n (like_at m I J)

or_right : (a b : Bool) → a ≡ true → (not a || b) ≡ true → b ≡ true
or_right true b e h = h
or_right false b e h = absurd (true≢false (sym e))

or_both : (a b : Bool) → (a ≡ true → b ≡ true) → (not a || b) ≡ true
or_both true b h = h refl
or_both false b h = refl

same_eq : {p q : Interval} → p ≡ q → same p q ≡ true
unfolding same
same_eq {p} {q} e = rw (eq-eqb p.low q.low (ap (λ (r : Interval). r.low) e), eq-eqb p.high q.high (ap (λ (r : Interval). r.high) e))

like_alike : (n : ℕ) (m : List Bool) (I J : Assign) → like n m I J ≡ true → Alike n (member m) I J
unfolding like like_at
like_alike n m I J e c l r = same_true (I c) (J c) (or_right (member m c) (same (I c) (J c)) r (all_at n (like_at m I J) e c l))

alike_like : (n : ℕ) (m : List Bool) (I J : Assign) → Alike n (member m) I J → like n m I J ≡ true
unfolding like like_at
alike_like n m I J h = all_true n (like_at m I J) (λ c l. or_both (member m c) (same (I c) (J c)) (λ r. same_eq (h c l r)))

-- round k, computed
unfoldable pub at : Page → ℕ → Assign
at page k = interval_of (rounds page k (all_unknown page.conditions page.top))

unfoldable pub still_at : Page → List ℕ → ℕ → Bool
still_at page qs k = like page.conditions (closure page qs) (at page k) (at page (suc k))

-- round k is the first that the next one equals
abbrev pub round_tests : Page → List ℕ → ℕ → List Bool
round_tests page qs k = still_at page qs k ∷ all_below k (λ j. not (still_at page qs j)) ∷ []

abbrev tests : CountRow → List Bool
tests (counts page qs k) = sound (area_of page) ∷ round_tests page qs k

module _ (page : Page) (w : Proper page) (qs : List ℕ) where
  at_is : (k c : ℕ) → c < page.conditions → at page k c ≡ iter page.top (close page.conditions page.top (T page) (unknown_by_default page)) k c
  unfolding at
  at_is = rounds_iter page w

  pub rounds_by : (k : ℕ) → Every (round_tests page qs k) → IsRounds page qs k
  unfolding still_at
  rounds_by k z =
      count_counted (page_system page w) (reached_closed page qs) (unknown_by_default page)
      (record {
        still = λ c l r. sym (at_is k c l) ∙ like_alike page.conditions (closure page qs) (at page k) (at page (suc k)) z.0 c l r ∙ at_is (suc k) c l;
        moving = λ j l h. true≢false
            (sym (alike_like page.conditions (closure page qs) (at page j) (at page (suc j)) (λ c i r. at_is j c i ∙ h c i r ∙ sym (at_is (suc j) c i)))
            ∙ not-true (still_at page qs j) (all_at k (λ j. not (still_at page qs j)) z.1.0 j l));
      })

passed : (r : CountRow) → Every (tests r) → Counts r
passed (counts page qs k) z = rounds_by page (proper page z.0) qs k z.1

test : List CountRow → Bool
test [] = true
test (r ∷ rs) = every (tests r) && test rs

law : (rs : List CountRow) → test rs ≡ true → AllCount rs
unfolding test
law [] e = tt
law (r ∷ rs) e = let h = both_true (every (tests r)) (test rs) e in (passed r (every_true (tests r) h.0), law rs h.1)

computed : test count_rows ≡ true
unfolding count_rows chain open0 loops page1 page3 page4 page5 page6 test still_at at like like_at all_below same rounding divided combine fold_from fold_all weighted negated mentions lines_name bodies unknown_by_default bodyless largest_of T table_from any_below listed pass passes closure sweep sweeps all_unknown support_list close_list rounds roof raise area_of sound_to kind span all_under lines_ok line_codes defaults_ok defaults page_of lines_of
computed = refl

pub count_bench : AllCount count_rows
count_bench = law count_rows computed
