-- What stands at a place of a text, for the contracts of the functions that go over it. Assumes nothing.
-- Past the end of a text the byte is 10, so that a last line without byte 10 ends there.
use Rattle.std.specs.Prelude.{◌≡◌, ℕ, ◌+◌, ◌-◌, ◌<◌, ◌≤◌, true, false, cond, ◌&&◌, ◌||◌, ◌⊎◌, List, [], length, get_or, drop, ◌==◌, ◌≢◌, nat_le, slice_index, slice_index_or, Option, Some, None}
use Rattle.semantics.specs.Page.{condition_of}
use Rattle.semantics.specs.Area.{code_of}
use Rattle.semantics.specs.Text.{text_lines, fields_of, field, is_digit, is_number, number_in, is_literal, literal_in}
use Rattle.fields.specs.declared.Token.{Token}

-- a place within a text whose last byte is 10
pub record InText (s : List ℕ) (at : ℕ) : Type 0 where
  pub inside : at < length s
  pub ended : get_or s (length s - 1) 10 ≡ 10

-- the fields from the front of a text to the end of its first line, and the lines after that one
unfoldable pub fields_at : List ℕ → List (List ℕ)
fields_at t = fields_of (slice_index_or (text_lines t) 0 [])

unfoldable pub lines_after : List ℕ → List (List ℕ)
lines_after t = drop 1 (text_lines t)

-- the field at a place of a text
abbrev pub field_at : List ℕ → ℕ → List ℕ
field_at s at = field (fields_at (drop at s)) 0

-- a digit's value, 10 for a byte that ends a field, 11 for any other
unfoldable pub class_of : ℕ → ℕ
class_of b = cond (is_digit b) (b - 48) (cond (b == 44 || b == 10) 10 11)

-- the number that is the field at a place and ends at the byte `mark`, and the place behind that byte
unfoldable pub number_before : List ℕ → ℕ → ℕ → Option Token
number_before s at mark =
    let f = field_at s at in
    cond (is_number f && slice_index_or s (at + length f) 10 == mark) (Some (record { value = number_in f; end = at + length f + 1 })) None

-- what `digit` answers for a byte: a digit's value, or none for another byte
pub record DigitIs (b v : ℕ) : Type 0 where
  pub is : v ≡ class_of b
  pub most : v ≤ 9

abbrev pub DigitAs : ℕ → Option ℕ → Type 0
DigitAs b (Some v) = DigitIs b v
DigitAs b None = 9 < class_of b

-- the field at a place is a number of value v and ends at the place e
pub record Numbered (s : List ℕ) (at v e : ℕ) : Type 0 where
  pub number : is_number (field_at s at) ≡ true
  pub value : number_in (field_at s at) ≡ v
  pub end : at + length (field_at s at) ≡ e

-- a number whose first digit has the value a stands at a place; if it begins with `0`, the field is known to be a number
pub record FirstDigit (s : List ℕ) (at a : ℕ) : Type 0 where
  pub place : InText s at
  pub digit : DigitIs (slice_index s at) a
  pub leads : (a ≢ 0) ⊎ (is_number (field_at s at) ≡ true)

-- digits of value v stand from a place to the place e: where a comma or byte 10 follows, the field is that number, else it is none
pub record Digits (s : List ℕ) (at v e : ℕ) : Type 0 where
  pub ends : class_of (slice_index_or s e 10) ≡ 10 → Numbered s at v e
  pub other : (class_of (slice_index_or s e 10) ≢ 10) → is_number (field_at s at) ≡ false
  pub most : v ≤ 999
  pub ahead : at < e
  pub place : InText s e

abbrev pub DigitsAt : List ℕ → ℕ → Option Token → Type 0
DigitsAt s at (Some t) = Digits s at t.value t.end
DigitsAt s at None = is_number (field_at s at) ≡ false

-- the field at a place, which is known to be a number, has the value v and ends at the place e
pub record NumberTo (s : List ℕ) (at v e : ℕ) : Type 0 where
  pub numbered : Numbered s at v e
  pub most : v ≤ 999
  pub ahead : at < e
  pub place : InText s e

-- what `sign` answers for a byte
abbrev pub SignIs : ℕ → ℕ → Type 0
SignIs b r = ((b ≡ 33) × (r ≡ 1)) ⊎ ((b ≢ 33) × (r ≡ 0))

-- the field at a place is a literal of the condition c and ends at the place e
pub record LiteralIs (s : List ℕ) (at c e : ℕ) : Type 0 where
  pub literal : is_literal (field_at s at) ≡ true
  pub condition : condition_of (literal_in (field_at s at)) ≡ c
  pub end : at + length (field_at s at) ≡ e

-- a sign or none and digits stand from a place to the place e: where a comma or byte 10 follows, the field is that literal, else it is none
pub record LiteralTo (s : List ℕ) (at c e : ℕ) : Type 0 where
  pub ends : class_of (slice_index_or s e 10) ≡ 10 → LiteralIs s at c e
  pub other : (class_of (slice_index_or s e 10) ≢ 10) → is_literal (field_at s at) ≡ false
  pub ahead : at < e
  pub place : InText s e

abbrev pub LiteralAt : List ℕ → ℕ → Option Token → Type 0
LiteralAt s at (Some t) = LiteralTo s at t.value t.end
LiteralAt s at None = is_literal (field_at s at) ≡ false

-- the literal that is the field at a place has this code, and the field ends at the place e
pub record CodeTo (s : List ℕ) (at code e : ℕ) : Type 0 where
  pub is : code_of (literal_in (field_at s at)) ≡ code
  pub end : at + length (field_at s at) ≡ e
  pub ahead : at < e
  pub place : InText s e

-- the letter that is the first of several fields, or 0
unfoldable pub letter_then : List (List ℕ) → ℕ
letter_then fs = cond (length (field fs 0) == 1 && nat_le 2 (length fs)) (slice_index (field fs 0) 0) 0
