-- Document 01, "The page": which line holds the low end of a body value. Assumes nothing.
use Rattle.std.specs.Prelude.{Bool, false, cond, List, [], ◌∷◌, ℕ, suc, eqb}
use Rattle.fixpoint.specs.Interval.{Interval, Assign}
use Rattle.semantics.specs.Body.{line_body, T}
use Rattle.semantics.specs.Page.{Line, Page}

-- what a line adds to a body has this low end; a line that adds nothing has none
abbrev pub has_low : ℕ → List Interval → Bool
has_low low [] = false
has_low low (p ∷ ps) = eqb p.low low

-- the number of the first F or R line of c with this low end, where the first of the lines has the number k; 0 if there is none
unfoldable pub first_with : ℕ → Assign → ℕ → ℕ → ℕ → List Line → ℕ
first_with top I c low k [] = 0
first_with top I c low k (l ∷ ls) = cond (has_low low (line_body top I c l)) k (first_with top I c low (suc k) ls)

-- the first F or R line of c whose low end at I is that of its T, by its number on the page; 0 if it has no F or R lines. The G line is line 1.
unfoldable pub line_holding : Page → Assign → ℕ → ℕ
line_holding page I c = first_with page.top I c (T page I c).low 2 page.lines
