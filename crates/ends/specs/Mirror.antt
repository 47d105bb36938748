-- One table for both ends of every literal: it holds the low ends, and the high end of a literal is top less the low end of its negation.
-- Assumes nothing.
use Rattle.std.specs.Prelude.{List, ℕ, ◌-◌, ◌≤◌, ◌<◌, length, get_or}
use Rattle.std.specs.Int.Bits.{bit_xor}
use Rattle.semantics.specs.Table.{table}
use Rattle.value.specs.Table.{Grades}
use Rattle.value.specs.LineEnds as one

-- the code of the negation of a literal
unfoldable pub flip : ℕ → ℕ
flip code = bit_xor code 1

-- the high ends that a table of low ends stands for, by code
unfoldable pub mirrored : ℕ → List ℕ → List ℕ
mirrored top values = table (length values) (λ code. top - get_or values (flip code) 0)

-- every number of a table of n conditions is a grade, of the high ends too
pub record Mirrored (top n : ℕ) (values : List ℕ) : Type 0 where
  pub low : Grades top n values
  pub high : Grades top n (mirrored top values)

-- what a fold over literals requires of both ends
pub record BothFoldable (top : ℕ) (codes values : List ℕ) (first_low first_high : ℕ) : Type 0 where
  pub low : one.Foldable top codes values first_low
  pub high : one.Foldable top codes (mirrored top values) first_high
  pub room : (j : ℕ) → j < length codes → flip (get_or codes j 0) < length values
  pub under : (j : ℕ) → j < length codes → get_or values (flip (get_or codes j 0)) 0 ≤ top
