-- The two ends, and one end of every literal in a table by the literal's code. Assumes nothing.
use Rattle.std.specs.Prelude.{◌≡◌, List, ℕ, ◌*◌, ◌≤◌, ◌<◌, length, get_or}
use Rattle.fixpoint.specs.Interval.{Interval, Assign}
use Rattle.semantics.specs.Area.{literal_of}
use Rattle.semantics.specs.Body.{literal_value}
use Rattle.semantics.specs.Grade.{End, lower, upper}
use Rattle.value.specs.declared.End as code
use Rattle.value.specs.declared.End.TheVariants.{Lower, Upper}

-- the end that the code names
abbrev pub side : code.End → End
side Lower = lower
side Upper = upper

abbrev pub end_of : End → Interval → ℕ
end_of lower p = p.low
end_of upper p = p.high

abbrev pub other : End → End
other lower = upper
other upper = lower

-- every number of a table of 2 × n is a grade
pub record Grades (top n : ℕ) (values : List ℕ) : Type 0 where
  pub long : 2 * n ≤ length values
  pub grade : (code : ℕ) → code < 2 * n → get_or values code 0 ≤ top

-- the number at a literal's code is the end e of its value at the assignment I
abbrev pub EndTable : End → (top n : ℕ) → Assign → List ℕ → Type 0
EndTable e top n I values = (code : ℕ) → code < 2 * n → get_or values code 0 ≡ end_of e (literal_value top I (literal_of code))
