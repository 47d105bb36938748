-- What the two passes over a text hand back and write. Assumes nothing.
use Rattle.std.specs.Prelude.{◌≡◌, Bool, true, false, List, [], ◌∷◌, ℕ, ◌+◌, ◌*◌, ◌≤◌, ◌<◌, leb, length, drop, Option as Maybe, Some, None, Result, Ok, Err}
use Rattle.std.proofs.Math.Option.{Option, none, some}
use Rattle.semantics.specs.Page.{Line as PageLine, defaults}
use Rattle.semantics.specs.Area.{head_length, line_code, line_codes}
use Rattle.semantics.specs.Call.{cause, first_of}
use Rattle.semantics.specs.Text.{text_lines, field, number_in, is_head, line_in, top_in, conditions_in, lines_in}
use Rattle.semantics.specs.ReadPage.{Refusal, Fault as LineFault, placed, or_else, outside, condition_range, leftmost, line_fault, bad_line}
use Rattle.fields.specs.Cursor.{InText, fields_at, lines_after}
use Rattle.reader.specs.declared.Refusal.{Refusal as Refused}
use Rattle.reader.specs.declared.check.Fault.{Fault}
use Rattle.reader.specs.declared.check.Entry.{Entry}
use Rattle.reader.specs.declared.check.Head.{Head}
use Rattle.reader.specs.declared.check.Tally.{Tally}
use Rattle.reader.specs.declared.check.Page.{Page}
use Rattle.reader.specs.Causes.{fault_told, refusal_told}
use Rattle.lines.specs.Lines.{Ends}
use Rattle.bits.specs.Words.{has, Inserted}

-- what the fields of a line come to, in document 01: the number of a refusal and a place, or none
abbrev pub fault_of : {A : Type 0} → Result A Fault → Option LineFault
fault_of (Ok a) = none
fault_of (Err f) = some (fault_told f)

-- the first literal of a rule that is out of range, if one is: the number of the refusal, and its place
abbrev pub literal_fault : Maybe ℕ → Option LineFault
literal_fault None = none
literal_fault (Some k) = some (record { number = 4; place = 4 + k })

-- what the fields of a rule come to, where `far` is that literal, and those of a query
abbrev pub rule_fault : ℕ → ℕ → ℕ → ℕ → Maybe ℕ → Option LineFault
rule_fault top n c w far = or_else (leftmost 1 ([] ∷ condition_range n c ∷ (cause (outside 1 top w) 21 ∷ []) ∷ [])) (literal_fault far)

abbrev pub query_fault : ℕ → ℕ → Option LineFault
query_fault n c = leftmost 1 ([] ∷ [] ∷ condition_range n c ∷ [])

-- and for a D line, where `again` says that its condition has one before it
abbrev pub default_fault : ℕ → ℕ → Bool → Option LineFault
default_fault n c again = or_else (leftmost 1 ([] ∷ condition_range n c ∷ [] ∷ [])) (placed 0 (first_of (cause again 24 ∷ [])))

-- the answer for a D line of c, where a set has the conditions of those before it: c is put into the set if the line is in order
pub record DefaultAs (n c : ℕ) (words words' : List ℕ) (r : Result (Unit {0}) Fault) : Type 0 where
  pub told : fault_of r ≡ default_fault n c (has words c)
  pub inserted : fault_of r ≡ none → Inserted c words words'

-- the set of the conditions that have a D line among these lines
pub record Seen (lines : List PageLine) (words : List ℕ) : Type 0 where
  pub size : length words ≡ 8
  pub are : (c : ℕ) → c < 512 → has words c ≡ leb 1 (defaults lines c)

-- what is wrong with a line that is not line 1,026, where `before` are the lines before it
abbrev pub fault_in : ℕ → ℕ → List PageLine → List (List ℕ) → Option LineFault
fault_in top n before fs = line_fault top n 0 before fs

-- a good line: its entry has so many numbers, the next line begins at the place `next`, and a set has the conditions of the D lines up to it
pub record LineGood (s : List ℕ) (at top n : ℕ) (before : List PageLine) (words : List ℕ) (next size : ℕ) : Type 0 where
  pub good : fault_in top n before (fields_at (drop at s)) ≡ none
  pub seen : Seen (line_in (fields_at (drop at s)) ∷ before) words
  pub entry : size ≡ length (line_code (line_in (fields_at (drop at s))))
  pub few : size ≤ 12
  pub ends : Ends s at next

abbrev pub LineAs : List ℕ → ℕ → ℕ → ℕ → List PageLine → List ℕ → Result Entry Fault → Type 0
LineAs s at top n before words (Ok e) = LineGood s at top n before words e.next e.size
LineAs s at top n before words (Err f) = fault_in top n before (fields_at (drop at s)) ≡ some (fault_told f)

-- the answer for a line, whatever the lines before it are whose D lines the set knows
abbrev pub CheckedLine : List ℕ → ℕ → ℕ → ℕ → List ℕ → List ℕ → Result Entry Fault → Type 0
CheckedLine s at top n words words' r = (before : List PageLine) → Seen before words → LineAs s at top n before words' r

-- the first line has its form, says top and C, and the next line begins at the place `next`
pub record HeadSays (s : List ℕ) (t n next : ℕ) : Type 0 where
  pub form : is_head (fields_at s) ≡ true
  pub top : t ≡ number_in (field (fields_at s) 1)
  pub conditions : n ≡ number_in (field (fields_at s) 2)
  pub lines : lines_after s ≡ text_lines (drop next s)

abbrev pub HeadAt : List ℕ → Maybe Head → Type 0
HeadAt s (Some h) = HeadSays s h.top h.conditions h.next
HeadAt s None = is_head (fields_at s) ≡ false

-- the entries of the lines from a place on
abbrev pub entries_of : List ℕ → ℕ → List ℕ
entries_of s from = line_codes (lines_in (text_lines (drop from s)))

-- the lines after the first, from a place on: none is bad, k of them, used length u, and a set has the conditions of their D lines
pub record AllGood (s : List ℕ) (from top n : ℕ) (words : List ℕ) (k u : ℕ) : Type 0 where
  pub good : bad_line top n 2 [] (text_lines (drop from s)) ≡ none
  pub count : k ≡ length (text_lines (drop from s))
  pub used : u ≡ head_length n + length (entries_of s from)
  pub seen : Seen (lines_in (text_lines (drop from s))) words
  pub conditions_few : n ≤ 512
  pub few : k ≤ 1024
  pub short : u ≤ head_length n + 12 * k

abbrev pub Tallied : List ℕ → ℕ → ℕ → ℕ → List ℕ → Result Tally Refused → Type 0
Tallied s from top n words (Ok t) = AllGood s from top n words t.count t.used
Tallied s from top n words (Err r) = bad_line top n 2 [] (text_lines (drop from s)) ≡ some (refusal_told r)

-- an accepted text: its top and C, k lines after the first, the used length u; line 2 begins at the place `from`
pub record Accepted (s : List ℕ) (t n : ℕ) (words : List ℕ) (k u : ℕ) : Type 0 where
  pub top : t ≡ top_in (text_lines s)
  pub conditions : n ≡ conditions_in (text_lines s)
  pub from : ℕ
  pub lines : drop 1 (text_lines s) ≡ text_lines (drop from s)
  pub all : AllGood s from t n words k u

-- the answer for a text whose refusal is o, and the set of the conditions of its D lines
abbrev pub CheckedAs : Option Refusal → List ℕ → List ℕ → Result Page Refused → Type 0
CheckedAs o s words (Ok p) = (o ≡ none) × Accepted s p.top p.conditions words p.count p.used
CheckedAs o s words (Err r) = o ≡ some (refusal_told r)

-- none of the lines from a place on is bad, where the first of them has the number k, and the area has room for their entries
pub record LinesFit (s : List ℕ) (from : ℕ) (area : List ℕ) (end : ℕ) : Type 0 where
  pub top : ℕ
  pub n : ℕ
  pub k : ℕ
  pub before : List PageLine
  pub good : bad_line top n k before (text_lines (drop from s)) ≡ none
  pub text : InText s 0
  pub room : end + length (entries_of s from) ≤ length area
