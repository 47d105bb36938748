-- The area of a page, with anything behind it, holds that page. Assumes nothing.
use mathlib.Core.Path.{◌≡◌, refl, ◌∙◌, ap, ap₂}
use mathlib.Core.List.{List, [], ◌∷◌, ◌++◌, map, append_assoc}
use Prim.Native.Nat.{ℕ, suc, ◌+◌, ◌*◌, ◌%◌, ◌<◌}
use native.Mathlib.Omega.{arith}
use lib.ListN.{length, drop, length-map, get_or-append}
use lib.Seq.{take_at, drop_at}
use borrow.Author.Tests.{eq-eqb, ne_eqb}
use Rattle.semantics.specs.Area.{rule_kind, kind, span, literal_of, line_at, lines_of, page_of, head_length, default_of, kind_of, code_of, line_code, line_codes, area_of}
use Rattle.fixpoint.specs.Sum.{bit}
use Rattle.semantics.specs.Body.{unknown_by_default}
use Rattle.semantics.specs.Table.{table}
use Rattle.semantics.proofs.Table.{length_from, get_d_table}
use Rattle.semantics.specs.Grade.{Op, M, X, L, B, P}
use Rattle.semantics.specs.Page.{Literal, positive, negative, K, W, Line, fact, rule, query, default, Page}

pub kind_of_lem : (op : Op) → kind (kind_of op) ≡ rule_kind op
unfolding kind
kind_of_lem M = refl
kind_of_lem X = refl
kind_of_lem L = refl
kind_of_lem B = refl
kind_of_lem P = refl

pub four_more : (n : ℕ) → 4 + n ≡ suc (suc (suc (suc n)))
four_more n = omega arith

literal_code_lem : (l : Literal) → literal_of (code_of l) ≡ l
literal_code_lem (positive c) = rw (eq-eqb ((2 * c) % 2) 0 (omega arith)) (ap positive (omega arith))
literal_code_lem (negative c) = rw (ne_eqb ((2 * c + 1) % 2) 0 (omega arith)) (ap negative (omega arith))

literal_codes : (ls : List Literal) → map literal_of (map code_of ls) ≡ ls
literal_codes [] = refl
literal_codes (l ∷ ls) = ap₂ {C = List Literal} (λ x xs. x ∷ xs) (literal_code_lem l) (literal_codes ls)

line_code_lem : (l : Line) (r : List ℕ) → line_at (line_code l ++ r) ≡ l
unfolding kind
line_code_lem (fact c l h) r = refl
line_code_lem (rule c w op lits) r =
    rw (kind_of_lem op, take_at (map code_of lits) r (length lits) (length-map lits code_of), literal_codes lits)
line_code_lem (query K c) r = refl
line_code_lem (query W c) r = refl
line_code_lem (default c) r = refl

pub line_span : (l : Line) (r : List ℕ) → drop (span (line_code l ++ r)) (line_code l ++ r) ≡ r
unfolding kind span
line_span (fact c l h) r = refl
line_span (rule c w op lits) r = rw (kind_of_lem op, four_more (length lits)) (drop_at (map code_of lits) r (length lits) (length-map lits code_of))
line_span (query K c) r = refl
line_span (query W c) r = refl
line_span (default c) r = refl

lines_code : (ls : List Line) (z : List ℕ) → lines_of (length ls) (line_codes ls ++ z) ≡ ls
unfolding lines_of line_codes
lines_code [] z = refl
lines_code (l ∷ ls) z =
    rw append_assoc
    (ap₂ {C = List Line} (λ x xs. x ∷ xs) (line_code_lem l (line_codes ls ++ z)) (ap (lines_of (length ls)) (line_span l (line_codes ls ++ z)) ∙ lines_code ls z))

-- the D numbers of a page
abbrev pub default_numbers : Page → List ℕ
default_numbers page = table page.conditions (λ c. bit (unknown_by_default page c))

-- where the lines of an area begin
pub lines_begin : (page : Page) (z : List ℕ) → drop (head_length page.conditions) (area_of page ++ z) ≡ line_codes page.lines ++ z
unfolding area_of
lines_begin page z =
    rw (four_more page.conditions, append_assoc (default_numbers page) (line_codes page.lines) z)
    (drop_at (default_numbers page) (line_codes page.lines ++ z) page.conditions (length_from page.conditions 0 _))

pub page_area : (page : Page) (z : List ℕ) → page_of (area_of page ++ z) ≡ page
unfolding page_of area_of
page_area page z =
    λ i. record { top = page.top; conditions = page.conditions; lines = (ap (lines_of (length page.lines)) (lines_begin page z) ∙ lines_code page.lines z) i }

-- its D numbers
pub default_area : (page : Page) (z : List ℕ) (c : ℕ) → c < page.conditions → default_of (area_of page ++ z) c ≡ bit (unknown_by_default page c)
unfolding area_of
default_area page z c l =
    rw (four_more c, append_assoc (default_numbers page) (line_codes page.lines) z)
    (get_or-append (default_numbers page) (line_codes page.lines ++ z) 0 c (omega (arith, length_from page.conditions 0 (λ c. bit (unknown_by_default page c))))
    ∙ get_d_table page.conditions (λ c. bit (unknown_by_default page c)) c 0 l)
