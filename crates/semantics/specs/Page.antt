-- Document 01, "The page", without its text. Assumes nothing.
use Rattle.std.specs.Prelude.{Bool, false, ◌&&◌, ◌||◌, List, [], ◌∷◌, ℕ, ◌+◌, eqb}
use Rattle.fixpoint.specs.Sum.{bit}
use Rattle.semantics.specs.Grade.{Op}

-- a literal: a condition number, or its negation
pub data Literal : Type 0 where
  positive negative : ℕ → Literal

abbrev pub condition_of : Literal → ℕ
condition_of (positive c) = c
condition_of (negative c) = c

-- the reading that a query asks for: `K` (plain) or `W` (closed)
pub data Reading : Type 0 where
  K W : Reading

-- an F line, an R line, a Q line, a D line
pub data Line : Type 0 where
  fact : (condition low high : ℕ) → Line
  rule : (condition weight : ℕ) → Op → List Literal → Line
  query : Reading → (condition : ℕ) → Line
  default : (condition : ℕ) → Line

-- top and C of the G line, and the lines after it
pub record Page : Type 0 where
  pub top : ℕ
  pub conditions : ℕ
  pub lines : List Line

-- b is among the literals, plain or negated
unfoldable pub mentions : List Literal → ℕ → Bool
mentions [] b = false
mentions (l ∷ ls) b = eqb (condition_of l) b || mentions ls b

unfoldable pub lines_name : List Line → ℕ → ℕ → Bool
lines_name [] a b = false
lines_name (fact c l h ∷ ls) a b = lines_name ls a b
lines_name (rule c w op lits ∷ ls) a b = (eqb c a && mentions lits b) || lines_name ls a b
lines_name (query r c ∷ ls) a b = lines_name ls a b
lines_name (default c ∷ ls) a b = lines_name ls a b

-- "names": some R line with head a has b among its literals
abbrev pub names : Page → ℕ → ℕ → Bool
names page = lines_name page.lines

-- how many D lines of c there are
unfoldable pub defaults : List Line → ℕ → ℕ
defaults [] c = 0
defaults (fact d l h ∷ ls) c = defaults ls c
defaults (rule d w op lits ∷ ls) c = defaults ls c
defaults (query r d ∷ ls) c = defaults ls c
defaults (default d ∷ ls) c = bit (eqb d c) + defaults ls c
