-- What the second pass needs of a line and writes of it. Assumes nothing.
use Rattle.std.specs.Prelude.{◌≡◌, true, List, map, ℕ, ◌+◌, ◌≤◌, length, drop}
use Rattle.std.proofs.lemmas.List.Edits.{sets}
use Rattle.semantics.specs.Area.{code_of, line_code}
use Rattle.semantics.specs.Text.{literal_in, has_form, line_in}
use Rattle.fields.specs.Cursor.{InText, fields_at}
use Rattle.lines.specs.Lines.{Ends}

-- a place of a text, where a line stands that has a form
pub record Formed (s : List ℕ) (at : ℕ) : Type 0 where
  pub place : InText s at
  pub form : has_form (fields_at (drop at s)) ≡ true

-- and a place of an area with room for the entry of that line
pub record LineFits (s : List ℕ) (at : ℕ) (area : List ℕ) (end : ℕ) : Type 0 where
  pub formed : Formed s at
  pub room : end + length (line_code (line_in (fields_at (drop at s)))) ≤ length area

-- the numbers `codes` are written to an area from `start` up to `end`, and nothing else is
pub record Put (area : List ℕ) (start : ℕ) (codes area' : List ℕ) (end : ℕ) : Type 0 where
  pub put : area' ≡ sets area start codes
  pub size : end ≡ start + length codes

-- the entry of the line at a place is written, and the next line begins at the place `next`
pub record LinePut (s : List ℕ) (at : ℕ) (area : List ℕ) (start : ℕ) (area' : List ℕ) (next end : ℕ) : Type 0 where
  pub entry : Put area start (line_code (line_in (fields_at (drop at s)))) area' end
  pub ends : Ends s at next

-- the code of the literal in a field
abbrev pub code_in : List ℕ → ℕ
code_in f = code_of (literal_in f)

-- the codes of the literals from a place to the end of the line are written
pub record LiteralsPut (s : List ℕ) (at : ℕ) (area : List ℕ) (start : ℕ) (area' : List ℕ) (next end : ℕ) : Type 0 where
  pub codes : Put area start (map code_in (fields_at (drop at s))) area' end
  pub ends : Ends s at next
