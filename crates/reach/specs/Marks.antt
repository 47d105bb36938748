-- Sets of conditions as arrays of 512 marks. Assumes nothing.
use Rattle.std.specs.Prelude.{◌≡◌, Bool, false, List, ℕ, length}
use Rattle.semantics.specs.Page.{Page}
use Rattle.semantics.specs.Reading.{closure}
use Rattle.semantics.specs.Table.{member}

-- the marks of a set
pub record Marks (s marks : List Bool) : Type 0 where
  pub size : length marks ≡ 512
  pub same : (c : ℕ) → member marks c ≡ member s c

-- "All 512 possible conditions begin as not reached"
abbrev pub Unmarked : List Bool → Type 0
Unmarked marks = (length marks ≡ 512) × ((c : ℕ) → member marks c ≡ false)

-- the marks of the closure of the queries
abbrev pub ClosureMarks : Page → List ℕ → List Bool → Type 0
ClosureMarks page qs marks = Marks (closure page qs) marks
