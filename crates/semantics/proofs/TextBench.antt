-- The rows on texts hold: one test over the list, computed. Assumes nothing.
use mathlib.Core.Path.{◌≡◌, refl, ap}
use mathlib.Core.Bool.{Bool, true, false, ◌&&◌, false≢true}
use mathlib.Core.List.{List, [], ◌∷◌}
use lib.Dec.{eqb}
use borrow.Author.Tests.{eqb-true}
use Rattle.semantics.specs.Page.{defaults}
use Rattle.semantics.specs.Body.{unknown_by_default}
use Rattle.semantics.specs.Table.{table_from}
use Rattle.semantics.specs.Area.{every, area_of, line_codes}
use Rattle.semantics.specs.ReadPage.{ReadAnswer, refused_page, read_page, leftmost, head_fault, line_fault, bad_line, bad_line_of, text_refusal, refusal_of, read_of, line_of, start_from, start_of}
use Rattle.semantics.specs.Text.{text_lines, fields_of, is_number, number_in, is_literal, literal_in, all_literals, is_op, op_in, is_reading, reading_in, is_head, is_fact, is_rule, is_query, is_default, has_form, line_in, lines_in, page_in}
use Rattle.semantics.proofs.Same.{same_list, same_numbers, same_numbers_lem}
use Rattle.semantics.proofs.Soundness.{both_true, Every, every_true}
use Rattle.semantics.proofs.TextRows.{TextRow, reads, answers, shows, HoldsIn, AllHoldIn, text_rows, head, no_end, fact34, zero_first, fact43, fact44, last, past, top200, top201, eight, nine, example, query, three, top1000, conditions512, conditions513, weight3, weight4, weight0, letters, form_and_range, ten, far_fact, low_over, high_over, full, far_crossed, far_low_over, over_crossed, far_rule, far_weight0, weight0_literal, weight11_literal, negation_far, literals_far, far_query, zeros, far_after, top0, conditions0, both_over, no_line, queries, no_form, ten_three, unknown0, unknown2, unknown5, unknown511, other_letter, far_other_letter, no_letter, empty_letter, two_letters, four_fields, letter_first, small_letter, nines}

same_read : ReadAnswer → ReadAnswer → Bool
same_read (refused_page k l i) (refused_page n m j) = every (eqb k n ∷ eqb l m ∷ eqb i j ∷ [])
same_read (refused_page k l i) (read_page u) = false
same_read (read_page u) (refused_page k l i) = false
same_read (read_page u) (read_page v) = eqb u v

same_read_lem : (o p : ReadAnswer) → same_read o p ≡ true → o ≡ p
unfolding same_read
same_read_lem (refused_page k l i) (refused_page n m j) e =
    let h = every_true (eqb k n ∷ eqb l m ∷ eqb i j ∷ []) e in
    rw (eqb-true k n h.0, eqb-true l m h.1.0, eqb-true i j h.1.1.0)
same_read_lem (refused_page k l i) (read_page u) e = absurd (false≢true e)
same_read_lem (read_page u) (refused_page k l i) e = absurd (false≢true e)
same_read_lem (read_page u) (read_page v) e = ap read_page (eqb-true u v e)

abbrev tests : TextRow → List Bool
tests (reads t a o left) = same_read (read_of t a).answer o ∷ same_numbers (read_of t a).area left ∷ []
tests (answers t a o) = same_read (read_of t a).answer o ∷ []
tests (shows t k l s) = same_numbers (line_of t k) l ∷ eqb (start_of t k) s ∷ []

passed : (r : TextRow) → Every (tests r) → HoldsIn r
passed (reads t a o left) z = (same_read_lem _ _ z.0, same_numbers_lem _ _ z.1.0)
passed (answers t a o) z = same_read_lem _ _ z.0
passed (shows t k l s) z = (same_numbers_lem _ _ z.0, eqb-true _ _ z.1.0)

test : List TextRow → Bool
test [] = true
test (r ∷ rs) = every (tests r) && test rs

law : (rs : List TextRow) → test rs ≡ true → AllHoldIn rs
unfolding test
law [] e = tt
law (r ∷ rs) e = let h = both_true (every (tests r)) (test rs) e in (passed r (every_true (tests r) h.0), law rs h.1)

computed : test text_rows ≡ true
unfolding text_rows head no_end fact34 zero_first fact43 fact44 last past top200 top201 eight nine example query three top1000 conditions512 conditions513 weight3 weight4 weight0 letters form_and_range ten far_fact low_over high_over full far_crossed far_low_over over_crossed far_rule far_weight0 weight0_literal weight11_literal negation_far literals_far far_query zeros far_after top0 conditions0 both_over no_line queries no_form ten_three unknown0 unknown2 unknown5 unknown511 other_letter far_other_letter no_letter empty_letter two_letters four_fields letter_first small_letter nines test same_list same_read read_of refusal_of text_refusal bad_line_of bad_line head_fault line_fault leftmost line_of start_from text_lines fields_of is_number number_in is_literal literal_in all_literals is_op op_in is_reading reading_in is_head is_fact is_rule is_query is_default has_form line_in lines_in page_in defaults unknown_by_default table_from area_of line_codes
computed = refl

pub text_bench : AllHoldIn text_rows
text_bench = law text_rows computed
