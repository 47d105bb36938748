-- Document 01, "The page": the value of a literal and of a rule, and the body value T. Assumes nothing.
-- All are total: an assignment may have low above high, and a condition at or over C is one without lines.
use Rattle.std.specs.Prelude.{Bool, true, false, List, [], ◌∷◌, ◌++◌, map, ℕ, eqb, leb}
use Rattle.fixpoint.specs.Interval.{Interval, Assign}
use Rattle.fixpoint.specs.Support.{assumption}
use Rattle.semantics.specs.Grade.{Op, combine, endwise, fold_from, fold_all, weighted, negated, largest}
use Rattle.semantics.specs.Page.{Literal, positive, negative, Line, fact, rule, query, default, Page, defaults}

abbrev pub literal_value : ℕ → Assign → Literal → Interval
literal_value top I (positive c) = I c
literal_value top I (negative c) = negated top (I c)

-- the op over the literals, then the weight
abbrev pub rule_value : ℕ → Assign → ℕ → Op → List Literal → Interval
rule_value top I w op lits = weighted top w (fold_all (endwise (combine top op)) (map (literal_value top I) lits))

-- what a line adds to the body of c: the value of an F or R line of c; any other line, every Q line and every D line add nothing
abbrev pub only_if : Bool → Interval → List Interval
only_if true p = p ∷ []
only_if false p = []

abbrev pub line_body : ℕ → Assign → ℕ → Line → List Interval
line_body top I c (fact d l h) = only_if (eqb d c) (record { low = l; high = h })
line_body top I c (rule d w op lits) = only_if (eqb d c) (rule_value top I w op lits)
line_body top I c (query r d) = []
line_body top I c (default d) = []

unfoldable pub bodies : ℕ → Assign → ℕ → List Line → List Interval
bodies top I c [] = []
bodies top I c (l ∷ ls) = line_body top I c l ++ bodies top I c ls

-- "A line `D,cond,U` makes a condition unknown by default" (document 02, ticket 7)
unfoldable pub unknown_by_default : Page → ℕ → Bool
unknown_by_default page c = leb 1 (defaults page.lines c)

-- the body value of a condition without F and R lines: [0;0], or [0;top] where it is unknown by default
unfoldable pub bodyless : Page → Assign
bodyless page = assumption page.top (unknown_by_default page)

-- [largest low; largest high] of a list, or d of the empty one
unfoldable pub largest_of : Interval → List Interval → Interval
largest_of d [] = d
largest_of d (p ∷ ps) = fold_from largest p ps

-- the body value T of the condition c at the assignment I
unfoldable pub T : Page → Assign → ℕ → Interval
T page I c = largest_of (bodyless page c) (bodies page.top I c page.lines)
