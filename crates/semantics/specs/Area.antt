-- Document 01, "Areas": the page area and its soundness. Assumes nothing.
-- Every definition is total: an area may be of any length and content, and what lies past its end reads as 0.
use Rattle.std.specs.Prelude.{Bool, true, false, cond, ◌&&◌, List, [], ◌∷◌, ◌++◌, map, ℕ, zero, suc, ◌+◌, ◌*◌, ◌-◌, ◌/◌, ◌%◌, eqb, ltb, leb, length, get_or, take, drop}
use Rattle.semantics.specs.Grade.{Op, M, X, L, B, P}
use Rattle.semantics.specs.Page.{Literal, positive, negative, K, W, Line, fact, rule, query, default, Page, defaults}
use Rattle.semantics.specs.Body.{unknown_by_default}
use Rattle.semantics.specs.Table.{table, all_below}
use Rattle.fixpoint.specs.Sum.{bit}

-- "top, C, count of lines after the first, used length"; then C numbers that say who is unknown by default; then the lines
abbrev pub top_of : List ℕ → ℕ
top_of a = get_or a 0 0

abbrev pub conditions_of : List ℕ → ℕ
conditions_of a = get_or a 1 0

abbrev pub count_of : List ℕ → ℕ
count_of a = get_or a 2 0

abbrev pub used_of : List ℕ → ℕ
used_of a = get_or a 3 0

-- how many numbers stand before the lines of a page with n conditions, and where the lines of an area begin
abbrev pub head_length : ℕ → ℕ
head_length n = 4 + n

abbrev pub first_line : List ℕ → ℕ
first_line a = head_length (conditions_of a)

-- "0 false, 1 unknown": the D number of the condition c
abbrev pub default_of : List ℕ → ℕ → ℕ
default_of a c = get_or a (4 + c) 0

-- the kind of a line's entry: 0 a fact, 1 to 5 a rule with M, X, L, B, P, 6 a query, 7 a D line; no other is a kind
pub data Kind : Type 0 where
  fact_kind : Kind
  rule_kind : Op → Kind
  query_kind : Kind
  default_kind : Kind
  no_kind : Kind

unfoldable pub kind : ℕ → Kind
kind k = get_or (fact_kind ∷ rule_kind M ∷ rule_kind X ∷ rule_kind L ∷ rule_kind B ∷ rule_kind P ∷ query_kind ∷ default_kind ∷ []) k no_kind

-- An entry is four numbers, condition, kind, x and y; a rule's y literals follow. How many numbers that makes:
abbrev pub span_as : Kind → ℕ → ℕ
span_as fact_kind y = 4
span_as (rule_kind op) y = 4 + y
span_as query_kind y = 4
span_as default_kind y = 4
span_as no_kind y = 4

-- of the entry at the front of p
unfoldable pub span : List ℕ → ℕ
span p = span_as (kind (get_or p 1 0)) (get_or p 3 0)

-- "a literal is 2 × condition, plus 1 if negated"
abbrev pub literal_of : ℕ → Literal
literal_of k = cond (eqb (k % 2) 0) (positive (k / 2)) (negative (k / 2))

abbrev pub literals_at : List ℕ → List ℕ
literals_at p = take (get_or p 3 0) (drop 4 p)

-- "A fact is cond, 0, low, high. A rule is cond, kind, weight, n and n literals. A query is cond, 6, 0 for K or 1 for W, 0."
-- "D lines are entries of kind 7 with two zeros after it."
-- An entry of no kind, which no sound area has, reads as a query.
abbrev pub line_as : Kind → ℕ → ℕ → ℕ → List ℕ → Line
line_as fact_kind c x y lits = fact c x y
line_as (rule_kind op) c x y lits = rule c x op (map literal_of lits)
line_as query_kind c x y lits = query (cond (eqb x 0) K W) c
line_as default_kind c x y lits = default c
line_as no_kind c x y lits = query K c

-- the line at the front of p
abbrev pub line_at : List ℕ → Line
line_at p = line_as (kind (get_or p 1 0)) (get_or p 0 0) (get_or p 2 0) (get_or p 3 0) (literals_at p)

-- the first k lines of p
unfoldable pub lines_of : ℕ → List ℕ → List Line
lines_of zero p = []
lines_of (suc k) p = line_at p ∷ lines_of k (drop (span p) p)

-- the page that an area holds
unfoldable pub page_of : List ℕ → Page
page_of a = record { top = top_of a; conditions = conditions_of a; lines = lines_of (count_of a) (drop (first_line a) a) }

-- Soundness, as lists of tests that must all hold.
abbrev pub every : List Bool → Bool
every [] = true
every (t ∷ ts) = t && every ts

unfoldable pub all_under : ℕ → List ℕ → Bool
all_under m [] = true
all_under m (x ∷ xs) = ltb x m && all_under m xs

-- "every field is in range, no fact has low above high": the fields after condition and kind
abbrev pub field_tests : ℕ → ℕ → Kind → ℕ → ℕ → List ℕ → List Bool
field_tests top n fact_kind x y lits = leb x y ∷ leb y top ∷ []
field_tests top n (rule_kind op) x y lits = leb 1 x ∷ leb x top ∷ leb 1 y ∷ leb y 8 ∷ all_under (2 * n) lits ∷ []
field_tests top n query_kind x y lits = leb x 1 ∷ eqb y 0 ∷ []
field_tests top n default_kind x y lits = eqb x 0 ∷ eqb y 0 ∷ []
field_tests top n no_kind x y lits = false ∷ []

-- the entry at the front of p lies within the next `left` numbers, its condition is below C, its fields are in range
abbrev pub line_tests : ℕ → ℕ → ℕ → List ℕ → List Bool
line_tests top n left p = leb (span p) left ∷ ltb (get_or p 0 0) n ∷ field_tests top n (kind (get_or p 1 0)) (get_or p 2 0) (get_or p 3 0) (literals_at p)

-- "its lines fill exactly the used length": the first `left` numbers of p are exactly k entries
unfoldable pub lines_ok : ℕ → ℕ → ℕ → ℕ → List ℕ → Bool
lines_ok top n zero left p = eqb left 0
lines_ok top n (suc k) left p = every (line_tests top n left p) && lines_ok top n k (left - span p) (drop (span p) p)

-- "at least as long as its four head numbers and its used length (these four numbers counted in it)", top 1 to 200, C 1 to 512, and at most so many lines
abbrev pub head_tests : (most : ℕ) → List ℕ → List Bool
head_tests most a =
    leb 4 (length a)
    ∷ leb (first_line a) (used_of a)
    ∷ leb (used_of a) (length a)
    ∷ leb 1 (top_of a)
    ∷ leb (top_of a) 200
    ∷ leb 1 (conditions_of a)
    ∷ leb (conditions_of a) 512
    ∷ leb (count_of a) most
    ∷ []

-- "A D number of 1 needs exactly one such entry, and 0 needs none"; no other number is sound
abbrev pub default_tests : List ℕ → ℕ → List Bool
default_tests a c = leb (default_of a c) 1 ∷ eqb (default_of a c) (defaults (page_of a).lines c) ∷ []

unfoldable pub defaults_ok : List ℕ → Bool
defaults_ok a = all_below (conditions_of a) (λ c. every (default_tests a c))

-- "A page area is sound when ..", with at most so many lines
unfoldable pub sound_to : (most : ℕ) → List ℕ → Bool
sound_to most a =
    every (
    every (head_tests most a)
    ∷ lines_ok (top_of a) (conditions_of a) (count_of a) (used_of a - first_line a) (drop (first_line a) a)
    ∷ defaults_ok a
    ∷ []
    )

-- "the count of lines is at most 1,024"
abbrev pub sound : List ℕ → Bool
sound = sound_to 1024

-- The area of a page: what the reader writes. Sound areas are exactly these, for proper pages, with anything behind them
-- (`sound_proper`, `proper_sound`, `sound_exact`).
abbrev pub kind_of : Op → ℕ
kind_of M = 1
kind_of X = 2
kind_of L = 3
kind_of B = 4
kind_of P = 5

abbrev pub code_of : Literal → ℕ
code_of (positive c) = 2 * c
code_of (negative c) = 2 * c + 1

abbrev pub line_code : Line → List ℕ
line_code (fact c l h) = c ∷ 0 ∷ l ∷ h ∷ []
line_code (rule c w op lits) = c ∷ kind_of op ∷ w ∷ length lits ∷ map code_of lits
line_code (query K c) = c ∷ 6 ∷ 0 ∷ 0 ∷ []
line_code (query W c) = c ∷ 6 ∷ 1 ∷ 0 ∷ []
line_code (default c) = c ∷ 7 ∷ 0 ∷ 0 ∷ []

unfoldable pub line_codes : List Line → List ℕ
line_codes [] = []
line_codes (l ∷ ls) = line_code l ++ line_codes ls

unfoldable pub area_of : Page → List ℕ
area_of page =
    page.top
    ∷ page.conditions
    ∷ length page.lines
    ∷ (head_length page.conditions + length (line_codes page.lines))
    ∷ (table page.conditions (λ c. bit (unknown_by_default page c)) ++ line_codes page.lines)
