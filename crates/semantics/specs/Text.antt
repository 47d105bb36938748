-- Document 01, "The page", its text: lines, fields, numbers and the forms of the lines. Assumes nothing.
-- A text is a list of bytes: 10 ends a line, 44 is the comma, 33 is `!`, 48 to 57 are the digits, and a letter is its byte.
use Rattle.std.specs.Prelude.{Bool, true, false, not, cond, ◌&&◌, ◌||◌, List, [], ◌∷◌, map, ℕ, ◌+◌, ◌*◌, ◌-◌, eqb, leb, length, get_or, drop}
use Rattle.semantics.specs.Grade.{Op, M, X, L, B, P}
use Rattle.semantics.specs.Page.{Literal, positive, negative, Reading, K, W, Line, fact, rule, query, default, Page}
use Rattle.semantics.specs.Area.{every}

-- a byte and the parts of what follows it: a separator ends an empty part, any other byte stands at the front of the first part
abbrev pub parted : Bool → ℕ → List (List ℕ) → List (List ℕ)
parted true b parts = [] ∷ parts
parted false b parts = (b ∷ get_or parts 0 []) ∷ drop 1 parts

-- "Text lines, each ended by byte 10", without it. "Bytes after the last 10 form a line if there are any."
unfoldable pub text_lines : List ℕ → List (List ℕ)
text_lines [] = []
text_lines (b ∷ s) = parted (eqb b 10) b (text_lines s)

-- "fields parted by commas, no quoting"
unfoldable pub fields_of : List ℕ → List (List ℕ)
fields_of [] = [] ∷ []
fields_of (b ∷ s) = parted (eqb b 44) b (fields_of s)

-- the field at place k, from 0, of a line's fields; one that is not there is empty
abbrev pub field : List (List ℕ) → ℕ → List ℕ
field fs k = get_or fs k []

-- "A number is 1 to 3 digits without a leading zero, except `0` itself."
abbrev pub is_digit : ℕ → Bool
is_digit b = leb 48 b && leb b 57

abbrev pub all_digits : List ℕ → Bool
all_digits [] = true
all_digits (b ∷ f) = is_digit b && all_digits f

unfoldable pub is_number : List ℕ → Bool
is_number f = every (leb 1 (length f) ∷ leb (length f) 3 ∷ all_digits f ∷ (not (eqb (get_or f 0 0) 48) || eqb (length f) 1) ∷ [])

-- its value in decimal, where v is what the digits before it make
abbrev pub value_from : ℕ → List ℕ → ℕ
value_from v [] = v
value_from v (d ∷ f) = value_from (10 * v + (d - 48)) f

unfoldable pub number_in : List ℕ → ℕ
number_in f = value_from 0 f

-- "A literal is a condition number, or `!` and a number for its negation."
abbrev pub is_negated : List ℕ → Bool
is_negated f = eqb (get_or f 0 0) 33

unfoldable pub is_literal : List ℕ → Bool
is_literal f = cond (is_negated f) (is_number (drop 1 f)) (is_number f)

unfoldable pub literal_in : List ℕ → Literal
literal_in f = cond (is_negated f) (negative (number_in (drop 1 f))) (positive (number_in f))

unfoldable pub all_literals : List (List ℕ) → Bool
all_literals [] = true
all_literals (f ∷ fs) = is_literal f && all_literals fs

-- a field of one letter
abbrev pub is_letter : ℕ → List ℕ → Bool
is_letter b f = eqb (length f) 1 && eqb (get_or f 0 0) b

-- the op letters `M`, `X`, `L`, `B`, `P`
unfoldable pub is_op : List ℕ → Bool
is_op f = is_letter 77 f || (is_letter 88 f || (is_letter 76 f || (is_letter 66 f || is_letter 80 f)))

unfoldable pub op_in : List ℕ → Op
op_in f = cond (is_letter 77 f) M (cond (is_letter 88 f) X (cond (is_letter 76 f) L (cond (is_letter 66 f) B P)))

-- "the reading is `K` (plain) or `W` (closed)"
unfoldable pub is_reading : List ℕ → Bool
is_reading f = is_letter 75 f || is_letter 87 f

unfoldable pub reading_in : List ℕ → Reading
reading_in f = cond (is_letter 75 f) K W

-- The forms, by the fields of a line.
-- `G,top,C`
abbrev pub head_form : List (List ℕ) → List Bool
head_form fs = is_letter 71 (field fs 0) ∷ eqb (length fs) 3 ∷ is_number (field fs 1) ∷ is_number (field fs 2) ∷ []

unfoldable pub is_head : List (List ℕ) → Bool
is_head fs = every (head_form fs)

-- `F,cond,low,high`
abbrev pub fact_form : List (List ℕ) → List Bool
fact_form fs = is_letter 70 (field fs 0) ∷ eqb (length fs) 4 ∷ is_number (field fs 1) ∷ is_number (field fs 2) ∷ is_number (field fs 3) ∷ []

unfoldable pub is_fact : List (List ℕ) → Bool
is_fact fs = every (fact_form fs)

-- `R,cond,weight,op,literal,...`, 1 to 8 literals
abbrev pub rule_form : List (List ℕ) → List Bool
rule_form fs =
    is_letter 82 (field fs 0)
    ∷ leb 1 (length (drop 4 fs))
    ∷ leb (length (drop 4 fs)) 8
    ∷ is_number (field fs 1)
    ∷ is_number (field fs 2)
    ∷ is_op (field fs 3)
    ∷ all_literals (drop 4 fs)
    ∷ []

unfoldable pub is_rule : List (List ℕ) → Bool
is_rule fs = every (rule_form fs)

-- `Q,reading,cond`
abbrev pub query_form : List (List ℕ) → List Bool
query_form fs = is_letter 81 (field fs 0) ∷ eqb (length fs) 3 ∷ is_reading (field fs 1) ∷ is_number (field fs 2) ∷ []

unfoldable pub is_query : List (List ℕ) → Bool
is_query fs = every (query_form fs)

-- `D,cond,U`
abbrev pub default_form : List (List ℕ) → List Bool
default_form fs = is_letter 68 (field fs 0) ∷ eqb (length fs) 3 ∷ is_number (field fs 1) ∷ is_letter 85 (field fs 2) ∷ []

unfoldable pub is_default : List (List ℕ) → Bool
is_default fs = every (default_form fs)

-- a line after the first has one of the forms
unfoldable pub has_form : List (List ℕ) → Bool
has_form fs = is_fact fs || (is_rule fs || (is_query fs || is_default fs))

-- what such a line says
unfoldable pub line_in : List (List ℕ) → Line
line_in fs =
    cond (is_fact fs) (fact (number_in (field fs 1)) (number_in (field fs 2)) (number_in (field fs 3)))
    (cond (is_rule fs) (rule (number_in (field fs 1)) (number_in (field fs 2)) (op_in (field fs 3)) (map literal_in (drop 4 fs)))
    (cond (is_query fs) (query (reading_in (field fs 1)) (number_in (field fs 2)))
    (default (number_in (field fs 1)))))

-- The page of a text with these lines: top and C of the first line, and the lines after it.
abbrev pub top_in : List (List ℕ) → ℕ
top_in ls = number_in (field (fields_of (get_or ls 0 [])) 1)

abbrev pub conditions_in : List (List ℕ) → ℕ
conditions_in ls = number_in (field (fields_of (get_or ls 0 [])) 2)

unfoldable pub lines_in : List (List ℕ) → List Line
lines_in [] = []
lines_in (l ∷ ls) = line_in (fields_of l) ∷ lines_in ls

unfoldable pub page_in : List (List ℕ) → Page
page_in ls = record { top = top_in ls; conditions = conditions_in ls; lines = lines_in (drop 1 ls) }
