-- The worked rows of the check of picks hold: one test over the list, computed. Assumes nothing.
use mathlib.Core.Path.{◌≡◌, refl}
use mathlib.Core.Bool.{Bool, true, not, ◌&&◌}
use mathlib.Core.List.{List, [], ◌∷◌}
use mathlib.Core.Option.{none, some}
use Prim.Native.Nat.{ℕ, ◌+◌, ◌-◌}
use lib.Dec.{ltb, eqb}
use lib.ListN.{length}
use borrow.Author.Tests.{eqb-true, ltb-true, not-true}
use Rattle.fixpoint.specs.Interval.{same}
use Rattle.semantics.specs.Area.{kind, span, lines_of, page_of, every, all_under, lines_ok, sound_to, defaults_ok}
use Rattle.semantics.specs.Body.{bodies, unknown_by_default, bodyless, largest_of, T}
use Rattle.semantics.specs.Call.{first_of, outcome}
use Rattle.semantics.specs.Demand.{perform_from}
use Rattle.semantics.specs.Grade.{rounding, divided, combine, fold_from, fold_all, weighted, negated}
use Rattle.semantics.specs.Operation.{query_causes, ends}
use Rattle.semantics.specs.Page.{mentions, lines_name, Page, defaults}
use Rattle.semantics.specs.Picks.{book_after, pick_waits, PicksAnswer, refused_queries, not_waiting, not_at_rest, wrong_figures, accepted_picks, PicksOf}
use Rattle.semantics.specs.Reading.{pass, passes, closure}
use Rattle.semantics.specs.Table.{table_from, all_unknown, any_below, all_below, listed, interval_of}
use Rattle.semantics.specs.Worklist.{start, changes, waiting_after, evaluated, lowest_from, rest, spent, status}
use Rattle.semantics.proofs.AreaRows.{area1, area_no_kind, area_nine, chain, many}
use Rattle.semantics.proofs.Picks.{plain_figures}
use Rattle.semantics.proofs.PicksRows.{PicksRow, checks, PicksHold, picks_rows}
use Rattle.semantics.proofs.Same.{same_list, same_numbers, same_numbers_lem, differ_numbers, same_cause, same_cause_lem, same_status, same_status_lem}
use Rattle.semantics.proofs.Soundness.{both_true, Every, every_true}
use Rattle.semantics.proofs.Table.{all_at}

-- all picks wait
abbrev waits? : Page → (qs picks : List ℕ) → Bool
waits? page qs picks = all_below (length picks) (pick_waits page qs picks)

-- what the queries hold in the book
abbrev held : Page → (qs picks : List ℕ) → List ℕ
held page qs picks = ends (interval_of (book_after page qs picks).intervals) qs

abbrev tests : PicksRow → List Bool
tests (checks a qs picks figures (refused_queries k)) = same_cause (first_of (query_causes a qs)) (some k) ∷ []
tests (checks a qs picks figures (not_waiting place)) =
    same_cause (first_of (query_causes a qs)) none
    ∷ eqb place (place - 1 + 1)
    ∷ ltb (place - 1) (length picks)
    ∷ not (pick_waits (page_of a) qs picks (place - 1))
    ∷ all_below (place - 1) (pick_waits (page_of a) qs picks)
    ∷ []
tests (checks a qs picks figures not_at_rest) =
    same_cause (first_of (query_causes a qs)) none
    ∷ waits? (page_of a) qs picks
    ∷ same_status (status (book_after (page_of a) qs picks)) spent
    ∷ []
tests (checks a qs picks figures wrong_figures) =
    same_cause (first_of (query_causes a qs)) none
    ∷ waits? (page_of a) qs picks
    ∷ same_status (status (book_after (page_of a) qs picks)) rest
    ∷ not (same_numbers figures (held (page_of a) qs picks))
    ∷ []
tests (checks a qs picks figures accepted_picks) =
    same_cause (first_of (query_causes a qs)) none
    ∷ waits? (page_of a) qs picks
    ∷ same_status (status (book_after (page_of a) qs picks)) rest
    ∷ same_numbers figures (held (page_of a) qs picks)
    ∷ []

passed : (a qs picks figures : List ℕ) (o : PicksAnswer) → Every (tests (checks a qs picks figures o)) → PicksOf o a qs picks figures
unfolding PicksOf
passed a qs picks figures (refused_queries k) z = rw (same_cause_lem _ _ z.0)
passed a qs picks figures (not_waiting place) z =
    rw (same_cause_lem _ _ z.0)
    (record {
      before = place - 1;
      place_is = eqb-true place (place - 1 + 1) z.1.0;
      inside = ltb-true (place - 1) (length picks) z.1.1.0;
      not_waiting = not-true (pick_waits (page_of a) qs picks (place - 1)) z.1.1.1.0;
      others_wait = all_at (place - 1) (pick_waits (page_of a) qs picks) z.1.1.1.1.0;
    })
passed a qs picks figures not_at_rest z =
    rw (same_cause_lem _ _ z.0) (all_at (length picks) (pick_waits (page_of a) qs picks) z.1.0, same_status_lem _ _ z.1.1.0)
passed a qs picks figures wrong_figures z =
    let e = same_cause_lem _ _ z.0 in
    let s = same_status_lem _ _ z.1.1.0 in
    rw e
    (all_at (length picks) (pick_waits (page_of a) qs picks) z.1.0, s, λ f. differ_numbers figures (held (page_of a) qs picks) (not-true _ z.1.1.1.0) ((plain_figures a qs e picks figures s).1 f))
passed a qs picks figures accepted_picks z =
    let e = same_cause_lem _ _ z.0 in
    let s = same_status_lem _ _ z.1.1.0 in
    rw e
    (all_at (length picks) (pick_waits (page_of a) qs picks) z.1.0, s, (plain_figures a qs e picks figures s).0 (same_numbers_lem figures (held (page_of a) qs picks) z.1.1.1.0))

test : List PicksRow → Bool
test [] = true
test (r ∷ rs) = every (tests r) && test rs

law : (rs : List PicksRow) → test rs ≡ true → PicksHold rs
unfolding test
law [] e = tt
law (checks a qs picks figures o ∷ rs) e =
    let h = both_true (every (tests (checks a qs picks figures o))) (test rs) e in
    (passed a qs picks figures o (every_true (tests (checks a qs picks figures o)) h.0), law rs h.1)

computed : test picks_rows ≡ true
unfolding picks_rows area1 area_no_kind area_nine chain many test same_list same_cause same_status sound_to kind span lines_ok all_under page_of lines_of all_below same perform_from outcome pick_waits start changes waiting_after evaluated lowest_from closure pass passes listed table_from any_below all_unknown mentions lines_name rounding divided combine fold_from fold_all weighted negated bodies unknown_by_default bodyless largest_of T defaults_ok defaults
computed = refl

pub picks_bench : PicksHold picks_rows
picks_bench = law picks_rows computed
