-- The worked rows hold, each by computation. Assumes nothing.
use mathlib.Core.Path.{refl}
use Rattle.fixpoint.specs.Interval.{same}
use Rattle.fixpoint.specs.Sum.{sum}
use Rattle.semantics.specs.Area.{kind, span, lines_of, page_of, all_under, lines_ok, sound_to, defaults_ok}
use Rattle.semantics.proofs.AreaRows.{area1, area_no_kind, spoilt1, nines}
use Rattle.semantics.specs.Body.{bodies, unknown_by_default, bodyless, largest_of, T}
use Rattle.semantics.specs.Call.{outcome}
use Rattle.semantics.specs.Grade.{rounding, divided, combine, fold_from, fold_all, weighted, negated}
use Rattle.semantics.specs.Holding.{first_with, line_holding}
use Rattle.semantics.specs.Operation.{open_of, operation}
use Rattle.semantics.specs.Page.{mentions, lines_name, defaults}
use Rattle.semantics.specs.Reading.{pass, passes, closure, adds, pass_count, count_r, count_e, bound}
use Rattle.semantics.specs.RunArea.{cells, run_of, worklist_of, reached_of, run_sound}
use Rattle.semantics.specs.Table.{table_from, all_unknown, any_below, all_below, listed}
use Rattle.semantics.specs.Worklist.{start, changes, waiting_after, evaluated, lowest_from, drive_from}
use Rattle.semantics.specs.Stalls.{need, half, share, part_of, with_part, open_stall, evaluate_stall, turn_of}
use Rattle.semantics.proofs.StallsRows.{StallsHold, stall_rows, after0, after1, after2, after3, after4}

pub stall_bench : StallsHold stall_rows
unfolding stall_rows after0 after1 after2 after3 after4 area1 area_no_kind spoilt1 nines need half share part_of with_part open_stall evaluate_stall turn_of open_of operation outcome sound_to kind span lines_ok all_under page_of lines_of run_of cells worklist_of reached_of run_sound all_below same sum start changes waiting_after evaluated lowest_from drive_from closure pass passes adds pass_count listed table_from any_below all_unknown count_r count_e bound mentions lines_name rounding divided combine fold_from fold_all weighted negated bodies unknown_by_default bodyless first_with line_holding largest_of T defaults_ok defaults
stall_bench = ((refl, refl), ((refl, refl), ((refl, refl), ((refl, refl), ((refl, refl), ((refl, refl), ((refl, refl), ((refl, refl), ((refl, refl), ((refl, refl), ((refl, refl), ((refl, refl), ((refl, refl), ((refl, refl), ((refl, refl), ((refl, refl), ((refl, refl), ((refl, refl), ((refl, refl), ((refl, refl), ((refl, refl), ((refl, refl), ((refl, refl), ((refl, refl), tt))))))))))))))))))))))))
