-- Worked rows of trials, in literal bytes: a page and a list with the whole output, an empty list, a refused page and a refused list; and for each
-- refusal of a list its nearest neighbour that is accepted, and the order of the causes. Assumes nothing.
use mathlib.Core.Path.{◌≡◌, refl, sym, ◌∙◌, subst}
use mathlib.Core.List.{List, [], ◌∷◌, map}
use mathlib.Core.Option.{Option, none, some}
use Prim.Native.Nat.{ℕ, zero, suc, ◌+◌, ◌*◌, ◌≤◌}
use native.Mathlib.Omega.{arith}
use lib.ListN.{length}
use borrow.Author.Tests.{ne_eqb, lt-ltb, le-ltb, lt-leb}
use Rattle.fixpoint.specs.Support.{roof, raise}
use Rattle.semantics.specs.Body.{bodies, unknown_by_default, bodyless, largest_of, T}
use Rattle.semantics.specs.Fields.{number_within, number_text}
use Rattle.semantics.specs.Grade.{M, rounding, divided, combine, fold_from, fold_all, weighted, negated}
use Rattle.semantics.specs.Output.{queries_of, Answers, AreAnswers}
use Rattle.semantics.specs.Page.{negative, K, W, fact, rule, query, default, Page, defaults}
use Rattle.semantics.specs.ReadPage.{Refusal, leftmost, head_fault, line_fault, bad_line, bad_line_of, text_refusal, page_read}
use Rattle.semantics.specs.Table.{interval_of, table_from, all_unknown}
use Rattle.semantics.specs.Text.{text_lines, fields_of, is_number, number_in, is_literal, literal_in, all_literals, is_op, op_in, is_reading, reading_in, is_head, is_fact, is_rule, is_query, is_default, has_form, line_in, lines_in, page_in}
use Rattle.semantics.specs.Trials.{TrialLine, is_trial, trial_in, bad_trial, list_refusal, trial_lines_in, list_read, Trial, trials_of, tried, kept_lines, tried_facts, changed_page, list_answers, AreAnswered, list_output, TrialsPrinted, IsTrialsOutput}
use Rattle.semantics.proofs.Computed.{plain_list_lem, closed_list_lem}
use Rattle.semantics.proofs.Proper.{Proper}
use Rattle.semantics.proofs.ReadProper.{accepted_proper}
use Rattle.semantics.proofs.Sweeps.{sweep, sweeps, plain_list, support_list, close_list, rounds, closed_list}
use Rattle.semantics.proofs.TrialLists.{AllTried, accepted_tried}
use Rattle.semantics.proofs.TrialPages.{changed_proper}
use Rattle.semantics.proofs.Trials.{TrialsTried, trials_tried, Agree, agree_output, answered_exist}

-- `G,4,3\nF,0,1,1\nF,0,3,3\nF,1,2,4\nR,1,4,M,!0\nD,2,U\nQ,K,1\nQ,W,0\nQ,W,2\n`
unfoldable pub trial_text : List ℕ
trial_text =
    71 ∷ 44 ∷ 52 ∷ 44 ∷ 51 ∷ 10
    ∷ 70 ∷ 44 ∷ 48 ∷ 44 ∷ 49 ∷ 44 ∷ 49 ∷ 10
    ∷ 70 ∷ 44 ∷ 48 ∷ 44 ∷ 51 ∷ 44 ∷ 51 ∷ 10
    ∷ 70 ∷ 44 ∷ 49 ∷ 44 ∷ 50 ∷ 44 ∷ 52 ∷ 10
    ∷ 82 ∷ 44 ∷ 49 ∷ 44 ∷ 52 ∷ 44 ∷ 77 ∷ 44 ∷ 33 ∷ 48 ∷ 10
    ∷ 68 ∷ 44 ∷ 50 ∷ 44 ∷ 85 ∷ 10
    ∷ 81 ∷ 44 ∷ 75 ∷ 44 ∷ 49 ∷ 10
    ∷ 81 ∷ 44 ∷ 87 ∷ 44 ∷ 48 ∷ 10
    ∷ 81 ∷ 44 ∷ 87 ∷ 44 ∷ 50 ∷ 10
    ∷ []

-- `T,7,0,0,1\nT,7,0,2,2\nT,7,1,0,0\nT,9,1,0,4\nT,9,2,4,4\n`
unfoldable pub trial_list : List ℕ
trial_list =
    84 ∷ 44 ∷ 55 ∷ 44 ∷ 48 ∷ 44 ∷ 48 ∷ 44 ∷ 49 ∷ 10
    ∷ 84 ∷ 44 ∷ 55 ∷ 44 ∷ 48 ∷ 44 ∷ 50 ∷ 44 ∷ 50 ∷ 10
    ∷ 84 ∷ 44 ∷ 55 ∷ 44 ∷ 49 ∷ 44 ∷ 48 ∷ 44 ∷ 48 ∷ 10
    ∷ 84 ∷ 44 ∷ 57 ∷ 44 ∷ 49 ∷ 44 ∷ 48 ∷ 44 ∷ 52 ∷ 10
    ∷ 84 ∷ 44 ∷ 57 ∷ 44 ∷ 50 ∷ 44 ∷ 52 ∷ 44 ∷ 52 ∷ 10
    ∷ []

-- the page and the trials that they say
unfoldable pub trial_page : Page
trial_page =
    record {
      top = 4;
      conditions = 3;
      lines = fact 0 1 1 ∷ fact 0 3 3 ∷ fact 1 2 4 ∷ rule 1 4 M (negative 0 ∷ []) ∷ default 2 ∷ query K 1 ∷ query W 0 ∷ query W 2 ∷ [];
    }

abbrev line : (trial condition low high : ℕ) → TrialLine
line t c l h = record { trial = t; condition = c; low = l; high = h }

abbrev first : Trial
first = record { number = 7; lines = line 7 0 0 1 ∷ line 7 0 2 2 ∷ line 7 1 0 0 ∷ [] }

abbrev second : Trial
second = record { number = 9; lines = line 9 1 0 4 ∷ line 9 2 4 4 ∷ [] }

-- `top,4\n7,K,1,2,2\n7,W,0,2,2\n7,W,2,0,4\n9,K,1,1,4\n9,W,0,3,3\n9,W,2,4,4\nend,6\n`
unfoldable pub trials_printed : List ℕ
trials_printed =
    116 ∷ 111 ∷ 112 ∷ 44 ∷ 52 ∷ 10
    ∷ 55 ∷ 44 ∷ 75 ∷ 44 ∷ 49 ∷ 44 ∷ 50 ∷ 44 ∷ 50 ∷ 10
    ∷ 55 ∷ 44 ∷ 87 ∷ 44 ∷ 48 ∷ 44 ∷ 50 ∷ 44 ∷ 50 ∷ 10
    ∷ 55 ∷ 44 ∷ 87 ∷ 44 ∷ 50 ∷ 44 ∷ 48 ∷ 44 ∷ 52 ∷ 10
    ∷ 57 ∷ 44 ∷ 75 ∷ 44 ∷ 49 ∷ 44 ∷ 49 ∷ 44 ∷ 52 ∷ 10
    ∷ 57 ∷ 44 ∷ 87 ∷ 44 ∷ 48 ∷ 44 ∷ 51 ∷ 44 ∷ 51 ∷ 10
    ∷ 57 ∷ 44 ∷ 87 ∷ 44 ∷ 50 ∷ 44 ∷ 52 ∷ 44 ∷ 52 ∷ 10
    ∷ 101 ∷ 110 ∷ 100 ∷ 44 ∷ 54 ∷ 10
    ∷ []

-- the answers, computed
abbrev computed : Page → Answers
computed page K = interval_of (plain_list page)
computed page W = interval_of (closed_list page)

computed_agree : (page : Page) → Proper page → (A : Answers) → AreAnswers page A → Agree page.conditions A (computed page)
computed_agree page w A a K c l = plain_list_lem page w (A K) (a K) c l
computed_agree page w A a W c l = closed_list_lem page w (A W) (a W) c l

page_is : page_read trial_text ≡ trial_page
unfolding trial_text trial_page text_lines fields_of is_number number_in is_literal literal_in all_literals is_op op_in is_reading reading_in is_head is_fact is_rule is_query is_default has_form line_in lines_in page_in
page_is = refl

text_none : text_refusal trial_text ≡ none
unfolding trial_text text_lines fields_of is_number number_in is_literal literal_in all_literals is_op op_in is_reading reading_in is_head is_fact is_rule is_query is_default has_form line_in lines_in page_in text_refusal bad_line_of bad_line head_fault line_fault leftmost defaults
text_none = refl

list_none : list_refusal trial_page trial_list ≡ none
unfolding trial_list trial_page text_lines fields_of is_number number_in is_trial trial_in bad_trial list_refusal
list_none = refl

trials_are : trials_of (list_read trial_list) ≡ first ∷ second ∷ []
unfolding trial_list text_lines fields_of number_in trial_in trial_lines_in trials_of
trials_are = refl

proper : Proper trial_page
proper = subst Proper page_is (accepted_proper trial_text text_none)

tried_both : TrialsTried 4 3 (first ∷ second ∷ [])
unfolding trial_page
tried_both = subst (λ (ts : List Trial). TrialsTried 4 3 ts) trials_are (trials_tried 4 3 (list_read trial_list) (accepted_tried trial_page trial_list list_none).tried)

changed_agree : (ts : List TrialLine) → AllTried 4 3 ts → (A : Answers) → AreAnswers (changed_page trial_page ts) A → Agree 3 A (computed (changed_page trial_page ts))
unfolding trial_page changed_page
changed_agree ts h A a = computed_agree (changed_page trial_page ts) (changed_proper trial_page proper ts h) A a

output_computed : trials_printed ≡ list_output trial_page (first ∷ second ∷ []) (computed (changed_page trial_page first.lines) ∷ computed (changed_page trial_page second.lines) ∷ [])
unfolding trials_printed list_output trial_page list_answers queries_of changed_page kept_lines tried_facts tried plain_list closed_list close_list support_list rounds sweep sweeps all_unknown roof raise T bodies bodyless unknown_by_default largest_of defaults table_from rounding divided combine fold_from fold_all weighted negated number_text number_within
output_computed = refl

printed_both : TrialsPrinted trial_page (first ∷ second ∷ []) trials_printed
unfolding trial_page
printed_both = let x = answered_exist trial_page proper (first ∷ second ∷ []) tried_both in go x.0 x.1
  where
    go : (As : List Answers) → AreAnswered trial_page (first ∷ second ∷ []) As → TrialsPrinted trial_page (first ∷ second ∷ []) trials_printed
    go [] a = absurd a
    go (A ∷ []) a = absurd a.1
    go (A ∷ B ∷ C ∷ As) a = absurd a.1.1
    go (A ∷ B ∷ []) a =
        record {
          answers = A ∷ B ∷ [];
          are = a;
          is =
              output_computed
              ∙ sym (agree_output trial_page proper (first ∷ second ∷ []) (A ∷ B ∷ [])
              (computed (changed_page trial_page first.lines) ∷ computed (changed_page trial_page second.lines) ∷ [])
              (changed_agree first.lines tried_both.0 A a.0, (changed_agree second.lines tried_both.1.0 B a.1.0, tt)));
        }

pub trials_row : IsTrialsOutput trial_text trial_list trials_printed
unfolding IsTrialsOutput
trials_row = rw (text_none, page_is, list_none, trials_are) printed_both

-- "an empty list gives no answers": `top,4\nend,0\n`
printed_none : TrialsPrinted trial_page [] (116 ∷ 111 ∷ 112 ∷ 44 ∷ 52 ∷ 10 ∷ 101 ∷ 110 ∷ 100 ∷ 44 ∷ 48 ∷ 10 ∷ [])
unfolding trial_page list_output list_answers queries_of number_text number_within
printed_none = record { answers = []; are = tt; is = refl }

pub empty_row : IsTrialsOutput trial_text [] (116 ∷ 111 ∷ 112 ∷ 44 ∷ 52 ∷ 10 ∷ 101 ∷ 110 ∷ 100 ∷ 44 ∷ 48 ∷ 10 ∷ [])
unfolding IsTrialsOutput text_lines list_refusal bad_trial trial_lines_in trials_of
empty_row = rw (text_none, page_is) printed_none

-- `T,1,0,0,0\nT,0,3,0,0\n`
abbrev far_line : List ℕ
far_line = 84 ∷ 44 ∷ 49 ∷ 44 ∷ 48 ∷ 44 ∷ 48 ∷ 44 ∷ 48 ∷ 10 ∷ 84 ∷ 44 ∷ 48 ∷ 44 ∷ 51 ∷ 44 ∷ 48 ∷ 44 ∷ 48 ∷ 10 ∷ []

far_refused : list_refusal trial_page far_line ≡ some (record { number = 41; line = 2; place = 0 })
unfolding trial_page text_lines fields_of is_number number_in is_trial trial_in bad_trial list_refusal
far_refused = refl

-- "A refused page or list prints only the refused line": `refused,41,2\n`
pub refused_list_row : IsTrialsOutput trial_text far_line (114 ∷ 101 ∷ 102 ∷ 117 ∷ 115 ∷ 101 ∷ 100 ∷ 44 ∷ 52 ∷ 49 ∷ 44 ∷ 50 ∷ 10 ∷ [])
unfolding IsTrialsOutput number_text number_within
refused_list_row = rw (text_none, page_is, far_refused)

-- ".. after the page is accepted": an empty page, `refused,2,0\n`
pub refused_page_row : IsTrialsOutput [] far_line (114 ∷ 101 ∷ 102 ∷ 117 ∷ 115 ∷ 101 ∷ 100 ∷ 44 ∷ 50 ∷ 44 ∷ 48 ∷ 10 ∷ [])
unfolding IsTrialsOutput text_refusal list_refusal bad_trial text_lines fields_of is_number number_in is_trial trial_in page_in number_text number_within
refused_page_row = refl

-- Refusals of lists for that page.
pub record ListRow : Type 0 where
  pub bytes : List ℕ
  pub refusal : Option Refusal

abbrev pub ListsHold : List ListRow → Type 0
ListsHold rows = map (λ (r : ListRow). list_refusal trial_page r.bytes) rows ≡ map (λ (r : ListRow). r.refusal) rows

abbrev accepts : List ℕ → ListRow
accepts bytes = record { bytes = bytes; refusal = none }

abbrev refuses : List ℕ → (number line : ℕ) → ListRow
refuses bytes number line = record { bytes = bytes; refusal = some (record { number = number; line = line; place = 0 }) }

unfoldable pub list_rows : List ListRow
list_rows =
    -- the empty list
    accepts []
    -- a line of the form, and the same unended
    ∷ accepts (84 ∷ 44 ∷ 48 ∷ 44 ∷ 48 ∷ 44 ∷ 48 ∷ 44 ∷ 48 ∷ 10 ∷ [])
    ∷ refuses (84 ∷ 44 ∷ 48 ∷ 44 ∷ 48 ∷ 44 ∷ 48 ∷ 44 ∷ 48 ∷ []) 40 1
    -- a field too few and one too many; another letter; an empty line
    ∷ refuses (84 ∷ 44 ∷ 48 ∷ 44 ∷ 48 ∷ 44 ∷ 48 ∷ 10 ∷ []) 40 1
    ∷ refuses (84 ∷ 44 ∷ 48 ∷ 44 ∷ 48 ∷ 44 ∷ 48 ∷ 44 ∷ 48 ∷ 44 ∷ 48 ∷ 10 ∷ []) 40 1
    ∷ refuses (70 ∷ 44 ∷ 48 ∷ 44 ∷ 48 ∷ 44 ∷ 48 ∷ 44 ∷ 48 ∷ 10 ∷ []) 40 1
    ∷ refuses (10 ∷ []) 40 1
    -- the number form
    ∷ accepts (84 ∷ 44 ∷ 57 ∷ 57 ∷ 57 ∷ 44 ∷ 48 ∷ 44 ∷ 48 ∷ 44 ∷ 48 ∷ 10 ∷ [])
    ∷ refuses (84 ∷ 44 ∷ 49 ∷ 48 ∷ 48 ∷ 48 ∷ 44 ∷ 48 ∷ 44 ∷ 48 ∷ 44 ∷ 48 ∷ 10 ∷ []) 40 1
    ∷ refuses (84 ∷ 44 ∷ 48 ∷ 48 ∷ 44 ∷ 48 ∷ 44 ∷ 48 ∷ 44 ∷ 48 ∷ 10 ∷ []) 40 1
    ∷ refuses (84 ∷ 44 ∷ 44 ∷ 48 ∷ 44 ∷ 48 ∷ 44 ∷ 48 ∷ 10 ∷ []) 40 1
    -- a condition below C, and C
    ∷ accepts (84 ∷ 44 ∷ 48 ∷ 44 ∷ 50 ∷ 44 ∷ 48 ∷ 44 ∷ 48 ∷ 10 ∷ [])
    ∷ refuses (84 ∷ 44 ∷ 48 ∷ 44 ∷ 51 ∷ 44 ∷ 48 ∷ 44 ∷ 48 ∷ 10 ∷ []) 41 1
    -- grades at top and above it
    ∷ accepts (84 ∷ 44 ∷ 48 ∷ 44 ∷ 48 ∷ 44 ∷ 52 ∷ 44 ∷ 52 ∷ 10 ∷ [])
    ∷ refuses (84 ∷ 44 ∷ 48 ∷ 44 ∷ 48 ∷ 44 ∷ 52 ∷ 44 ∷ 53 ∷ 10 ∷ []) 41 1
    ∷ refuses (84 ∷ 44 ∷ 48 ∷ 44 ∷ 48 ∷ 44 ∷ 53 ∷ 44 ∷ 53 ∷ 10 ∷ []) 41 1
    -- low below high, and above it
    ∷ accepts (84 ∷ 44 ∷ 48 ∷ 44 ∷ 48 ∷ 44 ∷ 50 ∷ 44 ∷ 51 ∷ 10 ∷ [])
    ∷ refuses (84 ∷ 44 ∷ 48 ∷ 44 ∷ 48 ∷ 44 ∷ 51 ∷ 44 ∷ 50 ∷ 10 ∷ []) 41 1
    -- the number of the line before, and one below it
    ∷ accepts (84 ∷ 44 ∷ 49 ∷ 44 ∷ 48 ∷ 44 ∷ 48 ∷ 44 ∷ 48 ∷ 10 ∷ 84 ∷ 44 ∷ 49 ∷ 44 ∷ 48 ∷ 44 ∷ 48 ∷ 44 ∷ 48 ∷ 10 ∷ [])
    ∷ refuses (84 ∷ 44 ∷ 49 ∷ 44 ∷ 48 ∷ 44 ∷ 48 ∷ 44 ∷ 48 ∷ 10 ∷ 84 ∷ 44 ∷ 48 ∷ 44 ∷ 48 ∷ 44 ∷ 48 ∷ 44 ∷ 48 ∷ 10 ∷ []) 42 2
    -- 40 before 41 before 42
    ∷ refuses (84 ∷ 44 ∷ 49 ∷ 44 ∷ 48 ∷ 44 ∷ 48 ∷ 44 ∷ 48 ∷ 10 ∷ 84 ∷ 44 ∷ 48 ∷ 44 ∷ 51 ∷ 44 ∷ 48 ∷ 44 ∷ 48 ∷ 10 ∷ []) 41 2
    ∷ refuses (84 ∷ 44 ∷ 49 ∷ 44 ∷ 48 ∷ 44 ∷ 48 ∷ 44 ∷ 48 ∷ 10 ∷ 84 ∷ 44 ∷ 48 ∷ 44 ∷ 51 ∷ 44 ∷ 48 ∷ 44 ∷ 48 ∷ []) 40 2
    ∷ refuses (84 ∷ 44 ∷ 49 ∷ 44 ∷ 48 ∷ 44 ∷ 48 ∷ 44 ∷ 48 ∷ 10 ∷ 84 ∷ 44 ∷ 48 ∷ 44 ∷ 51 ∷ 44 ∷ 50 ∷ 10 ∷ []) 40 2
    -- the first bad line
    ∷ refuses (84 ∷ 44 ∷ 49 ∷ 44 ∷ 48 ∷ 44 ∷ 48 ∷ 44 ∷ 48 ∷ 10 ∷ 84 ∷ 44 ∷ 48 ∷ 44 ∷ 48 ∷ 44 ∷ 48 ∷ 44 ∷ 48 ∷ 10 ∷ 84 ∷ 10 ∷ []) 42 2
    ∷ refuses (84 ∷ 44 ∷ 48 ∷ 44 ∷ 51 ∷ 44 ∷ 48 ∷ 44 ∷ 48 ∷ 10 ∷ 84 ∷ 10 ∷ []) 41 1
    ∷ []

pub list_bench : ListsHold list_rows
unfolding list_rows trial_page text_lines fields_of is_number number_in is_trial trial_in bad_trial list_refusal
list_bench = refl

-- "the 1,025th" line: so many lines `T,0,0,0,0\n`
unfoldable pub many_lines : ℕ → List ℕ
many_lines zero = []
many_lines (suc k) = 84 ∷ 44 ∷ 48 ∷ 44 ∷ 48 ∷ 44 ∷ 48 ∷ 44 ∷ 48 ∷ 10 ∷ many_lines k

many_long : (m : ℕ) → length (many_lines m) ≡ 10 * m
unfolding many_lines
many_long zero = refl
many_long (suc m) = omega (arith, many_long m)

many_pass : (size k at m : ℕ) → k + m ≤ 1025 → at + 10 * m ≤ size → size ≤ 65535 → bad_trial 4 3 size k at 0 (text_lines (many_lines m)) ≡ none
unfolding many_lines text_lines fields_of is_number number_in is_trial trial_in bad_trial
many_pass size k at zero h i j = refl
many_pass size k at (suc m) h i j =
    rw (le-ltb size (at + 9 + 1) (omega arith), ne_eqb k 1025 (λ e. omega arith), lt-ltb at 65536 (omega arith), lt-leb 65536 (at + 9 + 1) (omega arith))
    (many_pass size (suc k) (at + 9 + 1) m (omega arith) (omega arith) j)

many_late : (size k at m : ℕ) → k + m ≡ 1025 → at + 10 * suc m ≤ size → size ≤ 65535
    → bad_trial 4 3 size k at 0 (text_lines (many_lines (suc m))) ≡ some (record { number = 40; line = 1025; place = 0 })
unfolding many_lines text_lines fields_of is_number number_in is_trial trial_in bad_trial
many_late size k at zero h i j =
    let e : k ≡ 1025 = omega arith in
    rw (le-ltb size (at + 9 + 1) (omega arith), e)
many_late size k at (suc m) h i j =
    rw (le-ltb size (at + 9 + 1) (omega arith), ne_eqb k 1025 (λ e. omega arith), lt-ltb at 65536 (omega arith), lt-leb 65536 (at + 9 + 1) (omega arith))
    (many_late size (suc k) (at + 9 + 1) m (omega arith) (omega arith) j)

pub many_row : list_refusal trial_page (many_lines 1024) ≡ none
unfolding trial_page list_refusal
many_row = many_pass (length (many_lines 1024)) 1 0 1024 (omega arith) (omega (arith, many_long 1024)) (omega (arith, many_long 1024))

pub late_row : list_refusal trial_page (many_lines 1025) ≡ some (record { number = 40; line = 1025; place = 0 })
unfolding trial_page list_refusal
late_row = many_late (length (many_lines 1025)) 1 0 1024 (omega arith) (omega (arith, many_long 1025)) (omega (arith, many_long 1025))
