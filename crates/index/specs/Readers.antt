-- The conditions with a rule that has a given literal. Assumes nothing.
use Rattle.std.specs.Prelude.{Bool, false, ◌&&◌, ◌||◌, List, [], ◌∷◌, ℕ, eqb}
use Rattle.semantics.specs.Area.{code_of}
use Rattle.semantics.specs.Page.{Literal, Line, fact, rule, query, default}

-- the literal with that code is one of the list
unfoldable pub among : ℕ → List Literal → Bool
among code [] = false
among code (l ∷ ls) = eqb (code_of l) code || among code ls

-- some R line of a has that literal
unfoldable pub lines_read : ℕ → List Line → ℕ → Bool
lines_read code [] a = false
lines_read code (fact d l h ∷ ls) a = lines_read code ls a
lines_read code (rule d w op lits ∷ ls) a = (eqb d a && among code lits) || lines_read code ls a
lines_read code (query r d ∷ ls) a = lines_read code ls a
lines_read code (default d ∷ ls) a = lines_read code ls a
