-- What the parser of a line of a list hands back. Assumes nothing.
use Rattle.std.specs.Prelude.{◌≡◌, true, false, List, [], ◌∷◌, ℕ, ◌<◌, ◌≤◌, length, get_or, drop, Option, Some, None}
use Rattle.semantics.specs.Text.{text_lines, is_number, number_in}
use Rattle.semantics.specs.Trials.{TrialLine, is_trial, trial_in, line_end}
use Rattle.fields.specs.Cursor.{InText, fields_at, lines_after}
use Rattle.list.specs.declared.parse.Trial.{Trial}
use Rattle.lines.specs.declared.Pair.{Pair}
use Rattle.list.specs.declared.parse.Known.{Known}

-- what the numbers say
abbrev pub line_of : Trial → TrialLine
line_of t = record { trial = t.trial; condition = t.condition; low = t.low; high = t.high }

-- the line at a place of a text
abbrev pub line_at : List ℕ → ℕ → List ℕ
line_at s at = get_or (text_lines (drop at s)) 0 []

-- the fields at a place are `T`, the numbers f and g with the values v and w, and those at the place e
pub record FrontThen (s : List ℕ) (at v w e : ℕ) : Type 0 where
  pub f : List ℕ
  pub g : List ℕ
  pub fields : fields_at (drop at s) ≡ (84 ∷ []) ∷ f ∷ g ∷ fields_at (drop e s)
  pub first : is_number f ≡ true
  pub second : is_number g ≡ true
  pub value : number_in f ≡ v
  pub value' : number_in g ≡ w
  pub lines : lines_after (drop at s) ≡ lines_after (drop e s)
  pub ahead : at < e
  pub place : InText s e

abbrev pub FrontAt : List ℕ → ℕ → Option Pair → Type 0
FrontAt s at (Some p) = FrontThen s at p.first p.second p.next
FrontAt s at None = is_trial (fields_at (drop at s)) ≡ false

-- the line at a place has the form and says `line`, and the next begins at the place `next`, behind its byte 10
pub record Says (s : List ℕ) (at : ℕ) (line : Trial) (next : ℕ) : Type 0 where
  pub form : is_trial (fields_at (drop at s)) ≡ true
  pub is : trial_in (fields_at (drop at s)) ≡ line_of line
  pub lines : lines_after (drop at s) ≡ text_lines (drop next s)
  pub end : next ≡ line_end at (line_at s at)
  pub inside : next ≤ length s

abbrev pub ParsedAs : List ℕ → ℕ → Option Known → Type 0
ParsedAs s at (Some k) = Says s at k.line k.next
ParsedAs s at None = is_trial (fields_at (drop at s)) ≡ false
