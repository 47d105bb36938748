-- The areas that the functions over lines work on. Assumes nothing.
use Rattle.std.specs.Prelude.{Bool, List, ℕ}
use Rattle.semantics.specs.Area.{sound_to}

-- sound but for its count of lines: a page that a trial changes can have a fact more for each of 512 conditions (document 02, ticket 8)
abbrev pub solvable : List ℕ → Bool
solvable = sound_to 1536
