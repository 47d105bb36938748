-- What is written to a text. Assumes nothing.
use Rattle.std.specs.Prelude.{◌≡◌, List, ℕ, ◌+◌, ◌≤◌, length}
use Rattle.print.specs.Wrote.{Wrote}
use Rattle.print.specs.declared.Text.{Text}

-- there is room for n bytes more
abbrev pub Room : Text → ℕ → Type 0
Room text n = text.at + n ≤ length text.out.now

-- the bytes are written behind what was, to the same slice
pub record Puts (text : Text) (bytes : List ℕ) (text' : Text) : Type 0 where
  pub same : text'.out.ghost_name ≡ text.out.ghost_name
  pub wrote : Wrote text.out.now text.at bytes text'.out.now text'.at
