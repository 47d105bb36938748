-- Document 01, "Read a page" and "Show a line": what each answers, and what reading leaves in the page area. Assumes nothing.
use Rattle.std.specs.Prelude.{Bool, not, cond, ◌||◌, List, [], ◌∷◌, ◌++◌, ℕ, zero, suc, ◌-◌, eqb, ltb, leb, length, get_or, drop}
use Rattle.std.proofs.Math.Option.{Option, none, some}
use Rattle.semantics.specs.Page.{Literal, condition_of, Line, fact, rule, query, default, Page, defaults}
use Rattle.semantics.specs.Area.{used_of, area_of}
use Rattle.semantics.specs.Call.{Cause, cause, first_of}
use Rattle.semantics.specs.Text.{text_lines, fields_of, is_head, has_form, line_in, top_in, conditions_in, page_in}

-- "A refusal returns its number (and a line where stated)", and "the field's place in its line, counted from 1": the letter of a line is its
-- first field. "For every other refusal the place is 0."
pub record Refusal : Type 0 where
  pub number : ℕ
  pub line : ℕ
  pub place : ℕ

-- what is wrong with a line: the number of the refusal, and the place
pub record Fault : Type 0 where
  pub number : ℕ
  pub place : ℕ

-- the number of the first cause that holds, told with a place
abbrev pub placed : ℕ → Option ℕ → Option Fault
placed k none = none
placed k (some n) = some (record { number = n; place = k })

-- what is wrong, told with a line
abbrev pub told_at : ℕ → Option Fault → Option Refusal
told_at k none = none
told_at k (some f) = some (record { number = f.number; line = k; place = f.place })

-- the first of two
abbrev pub or_else : {A : Type 0} → Option A → Option A → Option A
or_else (some r) o = some r
or_else none o = o

-- "1: longer than 65,535 bytes. 2: empty, or the last byte is not 10."
abbrev pub text_causes : List ℕ → List Cause
text_causes bytes =
    cause (ltb 65535 (length bytes)) 1
    ∷ cause (eqb (length bytes) 0 || not (eqb (get_or bytes (length bytes - 1) 0) 10)) 2
    ∷ []

abbrev pub outside : ℕ → ℕ → ℕ → Bool
outside least most x = ltb x least || ltb most x

-- The ranges: the fields of a line in their order, each with the causes for which its number is refused. A letter has none.
-- "4 .. for the G line": top 1 to 200, C 1 to 512
abbrev pub head_ranges : ℕ → ℕ → List (List Cause)
head_ranges top n = [] ∷ (cause (outside 1 200 top) 4 ∷ []) ∷ (cause (outside 1 512 n) 4 ∷ []) ∷ []

-- "4 .. for a condition or literal at or over C"
abbrev pub condition_range : ℕ → ℕ → List Cause
condition_range n c = cause (leb n c) 4 ∷ []

abbrev pub literal_ranges : ℕ → List Literal → List (List Cause)
literal_ranges n [] = []
literal_ranges n (l ∷ ls) = condition_range n (condition_of l) ∷ literal_ranges n ls

-- "21, a weight outside 1 to top; 22, a low or high over top; 23, low above high", which "is told at the high field"
abbrev pub line_ranges : ℕ → ℕ → Line → List (List Cause)
line_ranges top n (fact c l h) = [] ∷ condition_range n c ∷ (cause (ltb top l) 22 ∷ []) ∷ (cause (ltb top h) 22 ∷ cause (ltb h l) 23 ∷ []) ∷ []
line_ranges top n (rule c w op lits) = [] ∷ condition_range n c ∷ (cause (outside 1 top w) 21 ∷ []) ∷ [] ∷ literal_ranges n lits
line_ranges top n (query r c) = [] ∷ [] ∷ condition_range n c ∷ []
line_ranges top n (default c) = [] ∷ condition_range n c ∷ [] ∷ []

-- "Within a line the leftmost bad field decides": of the fields from place k on
unfoldable pub leftmost : ℕ → List (List Cause) → Option Fault
leftmost k [] = none
leftmost k (causes ∷ fields) = or_else (placed k (first_of causes)) (leftmost (suc k) fields)

-- "3: it has none of the forms above for its place", then the ranges: the first line
abbrev pub head_causes : List (List ℕ) → List Cause
head_causes fs = cause (not (is_head fs)) 3 ∷ []

unfoldable pub head_fault : ℕ → ℕ → List (List ℕ) → Option Fault
head_fault top n fs = or_else (placed 0 (first_of (head_causes fs))) (leftmost 1 (head_ranges top n))

-- "24, a second D line for one condition", where `before` are the lines before it
abbrev pub repeat_causes : List Line → Line → List Cause
repeat_causes before (fact c l h) = []
repeat_causes before (rule c w op lits) = []
repeat_causes before (query r c) = []
repeat_causes before (default c) = cause (leb 1 (defaults before c)) 24 ∷ []

-- "in a line, 5: it is line 1,026; 3: ..", then the ranges, and 24 "after every range fault in that line": line k, after the first
abbrev pub line_causes : ℕ → List (List ℕ) → List Cause
line_causes k fs = cause (eqb k 1026) 5 ∷ cause (not (has_form fs)) 3 ∷ []

unfoldable pub line_fault : ℕ → ℕ → ℕ → List Line → List (List ℕ) → Option Fault
line_fault top n k before fs =
    or_else (placed 0 (first_of (line_causes k fs)))
    (or_else (leftmost 1 (line_ranges top n (line_in fs)))
    (placed 0 (first_of (repeat_causes before (line_in fs)))))

-- "line by line, the first bad line and its number from 1": of the lines from line k on, where `before` are those before it, the last one first
unfoldable pub bad_line : ℕ → ℕ → ℕ → List Line → List (List ℕ) → Option Refusal
bad_line top n k before [] = none
bad_line top n k before (l ∷ ls) =
    or_else (told_at k (line_fault top n k before (fields_of l))) (bad_line top n (suc k) (line_in (fields_of l) ∷ before) ls)

unfoldable pub bad_line_of : List (List ℕ) → Option Refusal
bad_line_of ls =
    or_else (told_at 1 (head_fault (top_in ls) (conditions_in ls) (fields_of (get_or ls 0 []))))
    (bad_line (top_in ls) (conditions_in ls) 2 [] (drop 1 ls))

-- what is wrong with a text, if anything; "For 1, 2 and 6 the line is 0."
unfoldable pub text_refusal : List ℕ → Option Refusal
text_refusal bytes = or_else (told_at 0 (placed 0 (first_of (text_causes bytes)))) (bad_line_of (text_lines bytes))

-- the page that an accepted text holds, and its used length
abbrev pub page_read : List ℕ → Page
page_read bytes = page_in (text_lines bytes)

abbrev pub used_by : List ℕ → ℕ
used_by bytes = used_of (area_of (page_read bytes))

-- "Last, 6: the area is shorter than the used length."
abbrev pub area_causes : List ℕ → List ℕ → List Cause
area_causes bytes area = cause (ltb (length area) (used_by bytes)) 6 ∷ []

unfoldable pub refusal_of : List ℕ → List ℕ → Option Refusal
refusal_of bytes area = or_else (text_refusal bytes) (told_at 0 (placed 0 (first_of (area_causes bytes area))))

-- "A page that is read returns its used length."
pub data ReadAnswer : Type 0 where
  refused_page : (number line place : ℕ) → ReadAnswer
  read_page : (used : ℕ) → ReadAnswer

pub record ReadOutcome : Type 0 where
  pub answer : ReadAnswer
  pub area : List ℕ

-- A refusal leaves the area as it is. A page that is read stands at its front, and what lies past the used length stays.
abbrev pub read_as : Option Refusal → List ℕ → List ℕ → ReadOutcome
read_as (some r) bytes area = record { answer = refused_page r.number r.line r.place; area = area }
read_as none bytes area = record { answer = read_page (used_by bytes); area = area_of (page_read bytes) ++ drop (used_by bytes) area }

unfoldable pub read_of : List ℕ → List ℕ → ReadOutcome
read_of bytes area = read_as (refusal_of bytes area) bytes area

-- Show a line: its bytes without byte 10, by its number from 1; empty "if there is no such line"
unfoldable pub line_of : List ℕ → ℕ → List ℕ
line_of bytes zero = []
line_of bytes (suc k) = get_or (text_lines bytes) k []

-- where the line with that number begins: behind the byte 10 that ends the line before it, or at the text's end where there are fewer lines
unfoldable pub start_from : List ℕ → ℕ → ℕ
start_from [] passed = 0
start_from (b ∷ s) zero = 0
start_from (b ∷ s) (suc k) = suc (start_from s (cond (eqb b 10) k (suc k)))

abbrev pub start_of : List ℕ → ℕ → ℕ
start_of bytes number = start_from bytes (number - 1)
