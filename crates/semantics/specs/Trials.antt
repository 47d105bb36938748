-- Document 02, ticket 8: trying facts before the visit. The list of trials, the page that a trial changes, and what the program `trials`
-- prints. Assumes nothing.
use Rattle.std.specs.Prelude.{◌≡◌, Bool, not, cond, ◌&&◌, List, [], ◌∷◌, ◌++◌, map, ℕ, zero, suc, ◌+◌, ◌*◌, eqb, ltb, leb, length}
use Rattle.std.proofs.Math.Option.{Option, none, some}
use Rattle.fixpoint.specs.Interval.{Interval}
use Rattle.semantics.specs.Page.{Line, fact, rule, query, default, Page}
use Rattle.semantics.specs.Area.{every}
use Rattle.semantics.specs.Text.{text_lines, fields_of, field, is_letter, is_number, number_in}
use Rattle.semantics.specs.Call.{Cause, cause, first_of}
use Rattle.semantics.specs.ReadPage.{Refusal, placed, told_at, or_else, text_refusal, page_read}
use Rattle.semantics.specs.Fields.{number_text}
use Rattle.semantics.specs.Output.{Query, queries_of, Answers, AreAnswers, top_fields, answer_fields, end_fields, refusal_fields, printed}

-- a line of the list: `T,trial,cond,low,high`
pub record TrialLine : Type 0 where
  pub trial : ℕ
  pub condition : ℕ
  pub low : ℕ
  pub high : ℕ

-- by the fields of the line; "trial 0 to 999, in the page's number form"
abbrev pub trial_form : List (List ℕ) → List Bool
trial_form fs =
    is_letter 84 (field fs 0)
    ∷ eqb (length fs) 5
    ∷ is_number (field fs 1)
    ∷ is_number (field fs 2)
    ∷ is_number (field fs 3)
    ∷ is_number (field fs 4)
    ∷ []

unfoldable pub is_trial : List (List ℕ) → Bool
is_trial fs = every (trial_form fs)

unfoldable pub trial_in : List (List ℕ) → TrialLine
trial_in fs = record { trial = number_in (field fs 1); condition = number_in (field fs 2); low = number_in (field fs 3); high = number_in (field fs 4) }

-- How many bytes of the list there are up to the end of a line, its byte 10 counted, where `at` bytes stand before the line.
abbrev pub line_end : ℕ → List ℕ → ℕ
line_end at l = at + length l + 1

-- "40, a list line of wrong form, unended, the 1,025th, or holding byte 65,536 of the list": line k of a list of `size` bytes
abbrev pub trial_form_causes : (size k at : ℕ) → List ℕ → List Cause
trial_form_causes size k at l =
    cause (not (is_trial (fields_of l))) 40
    ∷ cause (ltb size (line_end at l)) 40
    ∷ cause (eqb k 1025) 40
    ∷ cause (ltb at 65536 && leb 65536 (line_end at l)) 40
    ∷ []

-- "41, a condition or grade out of range, or low above high; 42, a trial number below the line before it"
abbrev pub trial_range_causes : (top n before : ℕ) → TrialLine → List Cause
trial_range_causes top n before t =
    cause (leb n t.condition) 41
    ∷ cause (ltb top t.low) 41
    ∷ cause (ltb top t.high) 41
    ∷ cause (ltb t.high t.low) 41
    ∷ cause (ltb t.trial before) 42
    ∷ []

-- "in that order per line"
abbrev pub trial_causes : (top n size k at before : ℕ) → List ℕ → List Cause
trial_causes top n size k at before l = trial_form_causes size k at l ++ trial_range_causes top n before (trial_in (fields_of l))

-- "the first bad line deciding": of the lines from line k on, where `at` bytes and a line of the trial `before` stand before them
unfoldable pub bad_trial : (top n size k at before : ℕ) → List (List ℕ) → Option Refusal
bad_trial top n size k at before [] = none
bad_trial top n size k at before (l ∷ ls) =
    or_else (told_at k (placed 0 (first_of (trial_causes top n size k at before l))))
    (bad_trial top n size (suc k) (line_end at l) (trial_in (fields_of l)).trial ls)

-- what is wrong with a list for a page, if anything. No number is below 0, so the first line has no 42.
unfoldable pub list_refusal : Page → List ℕ → Option Refusal
list_refusal page bytes = bad_trial page.top page.conditions (length bytes) 1 0 0 (text_lines bytes)

-- the lines of an accepted list
unfoldable pub trial_lines_in : List (List ℕ) → List TrialLine
trial_lines_in [] = []
trial_lines_in (l ∷ ls) = trial_in (fields_of l) ∷ trial_lines_in ls

abbrev pub list_read : List ℕ → List TrialLine
list_read bytes = trial_lines_in (text_lines bytes)

-- A trial: its number and its lines. "Trial numbers never fall", so the lines of one trial stand together.
pub record Trial : Type 0 where
  pub number : ℕ
  pub lines : List TrialLine

-- a line before trials: one of the first of them if it has its number, else a trial of its own
abbrev pub in_front : TrialLine → List Trial → List Trial
in_front t [] = record { number = t.trial; lines = t ∷ [] } ∷ []
in_front t (x ∷ xs) =
    cond (eqb t.trial x.number)
    (record { number = t.trial; lines = t ∷ x.lines } ∷ xs)
    (record { number = t.trial; lines = t ∷ [] } ∷ x ∷ xs)

unfoldable pub trials_of : List TrialLine → List Trial
trials_of [] = []
trials_of (t ∷ ts) = in_front t (trials_of ts)

-- "for each condition that its lines name, the last such line": the interval that a trial's lines give c, if they name it
abbrev pub interval_for : TrialLine → ℕ → Option Interval
interval_for t c = cond (eqb t.condition c) (some (record { low = t.low; high = t.high })) none

unfoldable pub tried : List TrialLine → ℕ → Option Interval
tried [] c = none
tried (t ∷ ts) c = or_else (tried ts c) (interval_for t c)

-- ".. in place of all F lines of that condition": an F line of a condition that is named goes, and every other line stays
abbrev pub kept_if : Option Interval → Line → List Line
kept_if none l = l ∷ []
kept_if (some p) l = []

abbrev pub kept_line : List TrialLine → Line → List Line
kept_line ts (fact c l h) = kept_if (tried ts c) (fact c l h)
kept_line ts (rule c w op lits) = rule c w op lits ∷ []
kept_line ts (query r c) = query r c ∷ []
kept_line ts (default c) = default c ∷ []

unfoldable pub kept_lines : List TrialLine → List Line → List Line
kept_lines ts [] = []
kept_lines ts (l ∷ ls) = kept_line ts l ++ kept_lines ts ls

-- ".. is the one fact": for n conditions from c on
abbrev pub fact_if : ℕ → Option Interval → List Line
fact_if c none = []
fact_if c (some p) = fact c p.low p.high ∷ []

unfoldable pub tried_facts : List TrialLine → ℕ → ℕ → List Line
tried_facts ts zero c = []
tried_facts ts (suc n) c = fact_if c (tried ts c) ++ tried_facts ts n (suc c)

-- "the page so changed": a page without a limit of lines
unfoldable pub changed_page : Page → List TrialLine → Page
changed_page page ts =
    record {
      top = page.top;
      conditions = page.conditions;
      lines = kept_lines ts page.lines ++ tried_facts ts page.conditions 0;
    }

-- "prints as `attach` does with the trial number as a first field of each answer"
abbrev pub trial_fields : ℕ → Query → Interval → List (List ℕ)
trial_fields number q p = number_text number ∷ answer_fields q p

abbrev pub trial_answers : ℕ → Answers → List Query → List (List (List ℕ))
trial_answers number A qs = map (λ q. trial_fields number q (A q.reading q.condition)) qs

-- the answers of the trials, "after the last line of each trial"
unfoldable pub list_answers : List Trial → List Answers → List Query → List (List (List ℕ))
list_answers [] As qs = []
list_answers (t ∷ ts) [] qs = []
list_answers (t ∷ ts) (A ∷ As) qs = trial_answers t.number A qs ++ list_answers ts As qs

-- each trial has its answers, "by document 01's definitions .. on the page so changed"
abbrev pub AreAnswered : Page → List Trial → List Answers → Type 0
AreAnswered page [] [] = Unit {0}
AreAnswered page [] (A ∷ As) = ⊥
AreAnswered page (t ∷ ts) [] = ⊥
AreAnswered page (t ∷ ts) (A ∷ As) = AreAnswers (changed_page page t.lines) A × AreAnswered page ts As

-- "and ends with the count of answers"
unfoldable pub list_output : Page → List Trial → List Answers → List ℕ
list_output page ts As =
    let qs = queries_of page.lines in
    printed ((top_fields page.top ∷ list_answers ts As qs) ++ (end_fields (length ts * length qs) ∷ []))

-- what is printed for a page and a list that are read: the trials have answers, and they are printed
pub record TrialsPrinted (page : Page) (ts : List Trial) (output : List ℕ) : Type 0 where
  pub answers : List Answers
  pub are : AreAnswered page ts answers
  pub is : output ≡ list_output page ts answers

-- "A refused page or list prints only the refused line"; a list is refused "after the page is accepted"
abbrev pub TrialsPrintedAs : Option Refusal → Page → List Trial → List ℕ → Type 0
TrialsPrintedAs (some r) page ts output = output ≡ printed (refusal_fields r.number r.line ∷ [])
TrialsPrintedAs none page ts output = TrialsPrinted page ts output

-- The output of the program for the bytes of its two files. There is exactly one: `trials_exists`, `trials_one`.
unfoldable pub IsTrialsOutput : (text list output : List ℕ) → Type 0
IsTrialsOutput text list output =
    TrialsPrintedAs (or_else (text_refusal text) (list_refusal (page_read text) list)) (page_read text) (trials_of (list_read list)) output
