-- `parse_default` meets its contract, by the laws of `Forms`. Assumes nothing.
use Rattle.std.proofs.Common.{◌≡◌, ℕ, ◌+◌, List, get_or, drop, sym, ◌∙◌, arith}
use Rattle.fields.specs.Cursor.{InText, fields_at}
use Rattle.fields.proofs.Places.{byte_here}
use Rattle.fields.proofs.Letters.{LetterThen, LetterLast, plain, letter_next, letter_here, letter_gone, letter_last, no_letter_last}
use Rattle.fields.proofs.Tokens.{number_then, no_number_then, comma_class}
use Rattle.lines.proofs.Forms.{gone_line, no_default, no_unknown, a_default}
use Rattle.lines.proofs.parse_default.Goals as goal

letter : (s : List ℕ) (at : ℕ) → InText s at → get_or s at 10 ≡ 68 → get_or s (at + 1) 0 ≡ 44 → LetterThen s at 68
letter s at p b e = letter_here s at p b (plain 68 (omega arith)) e

-- the letter `U` at a place, and what stands behind it
module _ (s : List ℕ) (i : ℕ) (p : InText s i) (u : get_or s i 0 ≡ 85) where
  unknown : get_or s i 10 ≡ 85
  unknown = sym (byte_here s i p.inside) ∙ u

  behind : InText s (i + 1)
  behind = letter_next s i p unknown (plain 85 (omega arith))

  last : get_or s (i + 1) 0 ≡ 10 → LetterLast s i 85
  last e = letter_last s i unknown (plain 85 (omega arith)) (sym (byte_here s (i + 1) behind.inside) ∙ e)

pub returns-then-bytes-at-ne44 : goal.returns-then-bytes-at-ne44
returns-then-bytes-at-ne44 c _ = let a = c.args in gone_line (fields_at (drop a.at a.bytes.now)) (letter_gone a.bytes.now a.at c.requires.0 c.requires.1 (plain 68 (omega arith)) c.if-bytes-at-ne44.true)

pub number_before-requires : goal.number_before-requires
number_before-requires c = let a = c.args in ((letter a.bytes.now a.at c.requires.0 c.requires.1 c.if-bytes-at-ne44.false).place, comma_class)

pub returns-in_err-condition : goal.returns-in_err-condition
returns-in_err-condition c _ =
    let a = c.args in
    let l = letter a.bytes.now a.at c.requires.0 c.requires.1 c.if-bytes-at-ne44.false in
    rw c.from_residual.ensures (no_default a.bytes.now a.at l (no_number_then a.bytes.now (a.at + 2) c.in_err-condition.ensures))

pub bounds-bytes-a : goal.bounds-bytes-a
bounds-bytes-a c =
    let a = c.args in
    let l = letter a.bytes.now a.at c.requires.0 c.requires.1 c.if-bytes-at-ne44.false in
    (number_then a.bytes.now (a.at + 2) l.place c.in_ok-condition.ensures).place.inside

pub returns-then-bytes-a-ne85 : goal.returns-then-bytes-a-ne85
returns-then-bytes-a-ne85 c _ =
    let a = c.args in
    let l = letter a.bytes.now a.at c.requires.0 c.requires.1 c.if-bytes-at-ne44.false in
    let n = number_then a.bytes.now (a.at + 2) l.place c.in_ok-condition.ensures in
    let i = c.in_ok-condition.condition.end in
    no_unknown a.bytes.now a.at l n (no_letter_last a.bytes.now i 85 (λ e f. c.if-bytes-a-ne85.true (byte_here a.bytes.now i n.place.inside ∙ e)))

pub returns-then-bytes-a-ne10 : goal.returns-then-bytes-a-ne10
returns-then-bytes-a-ne10 c _ =
    let a = c.args in
    let l = letter a.bytes.now a.at c.requires.0 c.requires.1 c.if-bytes-at-ne44.false in
    let n = number_then a.bytes.now (a.at + 2) l.place c.in_ok-condition.ensures in
    let i = c.in_ok-condition.condition.end in
    let b = behind a.bytes.now i n.place c.if-bytes-a-ne85.false in
    no_unknown a.bytes.now a.at l n (no_letter_last a.bytes.now i 85 (λ e f. c.if-bytes-a-ne10.true (byte_here a.bytes.now (i + 1) b.inside ∙ f)))

pub returns : goal.returns
returns c _ =
    let a = c.args in
    let l = letter a.bytes.now a.at c.requires.0 c.requires.1 c.if-bytes-at-ne44.false in
    let n = number_then a.bytes.now (a.at + 2) l.place c.in_ok-condition.ensures in
    a_default a.bytes.now a.at l n (last a.bytes.now c.in_ok-condition.condition.end n.place c.if-bytes-a-ne85.false c.if-bytes-a-ne10.false)
