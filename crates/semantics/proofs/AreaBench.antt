-- The rows on raw areas hold: one test over the list, computed. Assumes nothing.
use mathlib.Core.Path.{◌≡◌, refl, sym, ◌∙◌, ap}
use mathlib.Core.Bool.{Bool, true, ◌&&◌}
use mathlib.Core.List.{List, [], ◌∷◌, ◌++◌}
use mathlib.Core.Option.{none, some}
use lib.ListN.{length, drop}
use Prim.Native.Nat.{ℕ, ◌*◌}
use Rattle.fixpoint.specs.Interval.{same}
use Rattle.fixpoint.specs.Sum.{sum}
use Rattle.fixpoint.specs.Support.{roof, raise}
use Rattle.fixpoint.specs.WellFounded.{closed}
use Rattle.semantics.specs.Area.{kind, span, lines_of, page_of, all_under, lines_ok, sound_to, sound, every, defaults_ok}
use Rattle.semantics.proofs.AreaRows.{AreaRow, opens_on, calls_on, closes_on, refuses_on, HoldsOn, AllHoldOn, area_rows, area1, area_no_kind, area_twice, area_asked, area_half, area_nine, chain, opened1, rested1, unreached1, spoilt1, many, nines, ten9s, scratch1, area_camera, area_doubt, area_loop, area_no_entry, area_no_number, area_two_entries, area_number_two}
use Rattle.semantics.specs.Body.{bodies, unknown_by_default, bodyless, largest_of, T}
use Rattle.semantics.specs.Call.{first_of, outcome}
use Rattle.semantics.specs.Grade.{rounding, divided, combine, fold_from, fold_all, weighted, negated}
use Rattle.semantics.specs.Holding.{first_with, line_holding}
use Rattle.semantics.specs.Operation.{open_of, operation, closed_causes, zeros, scratch_length, ends, ClosedOf}
use Rattle.semantics.specs.Page.{mentions, lines_name, defaults}
use Rattle.semantics.specs.Reading.{pass, passes, closure, adds, pass_count, count_r, count_e, bound}
use Rattle.semantics.specs.RunArea.{cells, run_of, worklist_of, reached_of, run_sound}
use Rattle.semantics.specs.Table.{table_from, all_unknown, any_below, all_below, listed, interval_of}
use Rattle.semantics.specs.Worklist.{start, changes, waiting_after, evaluated, lowest_from, drive_from}
use Rattle.semantics.proofs.Computed.{closed_list_lem}
use Rattle.semantics.proofs.Keeps.{ends_same}
use Rattle.semantics.proofs.Same.{same_list, same_numbers, same_numbers_lem, same_cause, same_cause_lem, same_opening, same_opening_lem, figures, same_answer, same_status}
use Rattle.semantics.proofs.Readings.{closed_is}
use Rattle.semantics.proofs.RoundBench.{like, like_at, at, still_at, round_tests, rounds_by}
use Rattle.semantics.proofs.Soundness.{sound_proper, both_true, Every, every_true}
use Rattle.semantics.proofs.Sweeps.{sweep, sweeps, support_list, close_list, rounds, closed_list}

abbrev tests : AreaRow → List Bool
tests (opens_on a qs r o left) = same_opening (open_of a qs r).answer o ∷ same_numbers (open_of a qs r).run left ∷ []
tests (calls_on a r c o left) = same_numbers (figures (operation a r c).answer) (figures o) ∷ same_numbers (operation a r c).run left ∷ []
tests (closes_on a qs s w k s' w') =
    same_cause (first_of (closed_causes a qs s w)) none
    ∷ sound a
    ∷ all_under (page_of a).conditions qs
    ∷ same_numbers (ends (interval_of (closed_list (page_of a))) qs ++ drop (2 * length qs) w) w'
    ∷ same_numbers (zeros (scratch_length (page_of a)) ++ drop (scratch_length (page_of a)) s) s'
    ∷ round_tests (page_of a) qs k
tests (refuses_on a qs s w k) = same_cause (first_of (closed_causes a qs s w)) (some k) ∷ []

passed : (r : AreaRow) → Every (tests r) → HoldsOn r
unfolding ClosedOf
passed (opens_on a qs r o left) z = (same_opening_lem _ _ z.0, same_numbers_lem _ _ z.1.0)
passed (calls_on a r c o left) z = (same_answer _ _ z.0, same_numbers_lem _ _ z.1.0)
passed (closes_on a qs s w k s' w') z =
    let v = sound_proper a z.1.0 in
    let n = (page_of a).conditions in
    let C = closed (page_of a).conditions (page_of a).top (T (page_of a)) (unknown_by_default (page_of a)) in
    rw (same_cause_lem _ _ z.0) (
    record {
      reading = C;
      is_closed = closed_is (page_of a) v;
      rounds = k;
      is_rounds = rounds_by (page_of a) v qs k z.1.1.1.1.1;
      told = refl;
      written = sym (same_numbers_lem _ _ z.1.1.1.0) ∙ ap (λ (l : List ℕ). l ++ drop (2 * length qs) w) (ends_same n (interval_of (closed_list (page_of a))) C (λ c k. sym (closed_list_lem (page_of a) v C (closed_is (page_of a) v) c k)) qs z.1.1.0);
      cleared = sym (same_numbers_lem _ _ z.1.1.1.1.0);
    }
    )
passed (refuses_on a qs s w k) z = rw (same_cause_lem _ _ z.0) (refl, refl, refl)

test : List AreaRow → Bool
test [] = true
test (r ∷ rs) = every (tests r) && test rs

law : (rs : List AreaRow) → test rs ≡ true → AllHoldOn rs
unfolding test
law [] e = tt
law (r ∷ rs) e = let h = both_true (every (tests r)) (test rs) e in (passed r (every_true (tests r) h.0), law rs h.1)

computed : test area_rows ≡ true
unfolding area_rows area1 area_no_kind area_twice area_asked area_half area_nine chain area_camera area_doubt area_loop area_no_entry area_no_number area_two_entries area_number_two opened1 rested1 unreached1 spoilt1 many nines ten9s scratch1 test same_list same_cause same_opening figures same_status open_of operation outcome sound_to kind span lines_ok all_under page_of lines_of run_of cells worklist_of reached_of run_sound all_below same sum start changes waiting_after evaluated lowest_from drive_from closure pass passes adds pass_count listed table_from any_below all_unknown count_r count_e bound mentions lines_name rounding divided combine fold_from fold_all weighted negated bodies unknown_by_default bodyless largest_of T first_with line_holding zeros sweep sweeps support_list close_list rounds closed_list roof raise still_at at like like_at defaults_ok defaults
computed = refl

pub area_bench : AllHoldOn area_rows
area_bench = law area_rows computed
