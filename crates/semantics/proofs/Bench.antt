-- The starred rows hold: one test over the list, computed. Assumes nothing.
use mathlib.Core.Path.{◌≡◌, refl, sym, ◌∙◌, ap, subst}
use mathlib.Core.Bool.{Bool, true, ◌&&◌}
use mathlib.Core.List.{List, [], ◌∷◌, append-nil}
use Prim.Native.Nat.{◌<◌}
use lib.Dec.{eqb, ltb}
use borrow.Author.Tests.{eqb-true, ltb-true}
use Rattle.fixpoint.specs.Interval.{same}
use Rattle.fixpoint.specs.Sum.{sum}
use Rattle.fixpoint.specs.Support.{roof, raise}
use Rattle.semantics.specs.Area.{area_of, page_of, sound_to, sound, kind, span, lines_of, all_under, lines_ok, line_codes, every, defaults_ok}
use Rattle.semantics.specs.Body.{bodies, unknown_by_default, bodyless, largest_of, T}
use Rattle.semantics.specs.Grade.{rounding, divided, combine, fold_from, fold_all, weighted, negated}
use Rattle.semantics.specs.Page.{mentions, lines_name, Page, defaults}
use Rattle.semantics.proofs.Proper.{Proper}
use Rattle.semantics.specs.Reading.{pass, passes, closure, count_e, count_r, bound}
use Rattle.semantics.proofs.Rows.{interval, Row, plainly, closedly, opens, drives, Holds, AllHold, rows, page1, page3, page4, page5, page6, page7, page8, page_ours, page_exact}
use Rattle.semantics.specs.Table.{interval_of, table_from, any_below, listed, all_unknown, all_below}
use Rattle.semantics.specs.Worklist.{start, changes, waiting_after, evaluated, lowest_from, drive_from, driven, status}
use Rattle.fixpoint.proofs.Evaluation.{same_true}
use Rattle.semantics.proofs.Computed.{plain_list_lem, closed_list_lem}
use Rattle.semantics.proofs.Readings.{plain_is, closed_is}
use Rattle.semantics.proofs.RoundTrip.{page_area}
use Rattle.semantics.proofs.Same.{same_status, same_status_lem, same_flag, same_flag_lem, same_list, same_list_lem}
use Rattle.semantics.proofs.Soundness.{both_true, Every, every_true, sound_proper}
use Rattle.semantics.proofs.Sweeps.{sweep, sweeps, plain_list, support_list, close_list, rounds, closed_list}

pub proper : (page : Page) → sound (area_of page) ≡ true → Proper page
proper page e = subst Proper (ap page_of (sym (append-nil (area_of page))) ∙ page_area page []) (sound_proper (area_of page) e)

abbrev tests : Row → List Bool
tests (plainly page c l h) = sound (area_of page) ∷ ltb c page.conditions ∷ same (interval_of (plain_list page) c) (interval l h) ∷ []
tests (closedly page c l h) = sound (area_of page) ∷ ltb c page.conditions ∷ same (interval_of (closed_list page) c) (interval l h) ∷ []
tests (opens page qs r e b) = eqb (count_r page (closure page qs)) r ∷ eqb (count_e page (closure page qs)) e ∷ eqb (bound page (closure page qs)) b ∷ []
tests (drives page qs k o t w ps) =
    let m = closure page qs in
    let d = driven page m k (start page m) in
    eqb d.taken t ∷ same_status (status d.state) o ∷ same_list same_flag d.state.waiting w ∷ same_list same d.state.intervals ps ∷ []

passed : (r : Row) → Every (tests r) → Holds r
passed (plainly page c l h) z =
    let w = proper page z.0 in
    let k : c < page.conditions = ltb-true c page.conditions z.1.0 in
    (k, record { some_one = (_, plain_is page w); every_one = λ I p. plain_list_lem page w I p c k ∙ same_true _ _ z.1.1.0 })
passed (closedly page c l h) z =
    let w = proper page z.0 in
    let k : c < page.conditions = ltb-true c page.conditions z.1.0 in
    (k, record { some_one = (_, closed_is page w); every_one = λ I p. closed_list_lem page w I p c k ∙ same_true _ _ z.1.1.0 })
passed (opens page qs r e b) z = record { reached = eqb-true _ _ z.0; edges = eqb-true _ _ z.1.0; limit = eqb-true _ _ z.1.1.0 }
passed (drives page qs k o t w ps) z = record { count = eqb-true _ _ z.0; ends = same_status_lem _ _ z.1.0; waits = same_list_lem same_flag same_flag_lem _ _ z.1.1.0; holds = same_list_lem same same_true _ _ z.1.1.1.0 }

test : List Row → Bool
test [] = true
test (r ∷ rs) = every (tests r) && test rs

law : (rs : List Row) → test rs ≡ true → AllHold rs
unfolding test
law [] e = tt
law (r ∷ rs) e = let h = both_true (every (tests r)) (test rs) e in (passed r (every_true (tests r) h.0), law rs h.1)

computed : test rows ≡ true
unfolding rows page1 page3 page4 page5 page6 page7 page8 page_ours page_exact test same_status same_flag same_list same sum rounding divided combine fold_from fold_all weighted negated mentions lines_name bodies unknown_by_default bodyless largest_of T table_from any_below listed pass passes closure count_e count_r bound sweep sweeps all_unknown plain_list support_list close_list rounds closed_list roof raise area_of sound_to kind span all_under lines_ok line_codes start changes waiting_after evaluated lowest_from drive_from defaults_ok defaults all_below page_of lines_of
computed = refl

pub bench : AllHold rows
bench = law rows computed
