-- `parse_head` meets its contract, by the laws of `Heads`. Assumes nothing.
use Rattle.std.proofs.Common.{◌≡◌, ℕ, List, get_or, sym, ◌∙◌, arith}
use Rattle.fields.specs.Cursor.{InText}
use Rattle.fields.proofs.Places.{byte_here}
use Rattle.fields.proofs.Letters.{LetterThen, plain, letter_next, letter_here, letter_gone}
use Rattle.fields.proofs.Tokens.{number_then, no_number_then, number_last, no_number_last, comma_class, newline_class}
use Rattle.reader.proofs.Heads.{other_head, gone_head, no_top, no_conditions, a_head}
use Rattle.reader.proofs.check.parse_head.Goals as goal

-- the letter `G` at the front
module _ (s : List ℕ) (w : InText s 0) (g : get_or s 0 0 ≡ 71) where
  front : get_or s 0 10 ≡ 71
  front = sym (byte_here s 0 w.inside) ∙ g

  second : InText s 1
  second = letter_next s 0 w front (plain 71 (omega arith))

  letter : get_or s 1 0 ≡ 44 → LetterThen s 0 71
  letter e = letter_here s 0 w front (plain 71 (omega arith)) e

pub returns-then-bytes-ne71 : goal.returns-then-bytes-ne71
returns-then-bytes-ne71 c = other_head c.args.bytes.now (λ z. c.if-bytes-ne71.true (byte_here c.args.bytes.now 0 c.requires.inside ∙ z))

pub returns-then-bytes-ne44 : goal.returns-then-bytes-ne44
returns-then-bytes-ne44 c = gone_head c.args.bytes.now (letter_gone c.args.bytes.now 0 c.requires (front c.args.bytes.now c.requires c.if-bytes-ne71.false) (plain 71 (omega arith)) c.if-bytes-ne44.true)

pub number_before-requires : goal.number_before-requires
number_before-requires c = ((letter c.args.bytes.now c.requires c.if-bytes-ne71.false c.if-bytes-ne44.false).place, comma_class)

pub returns-in_err-top : goal.returns-in_err-top
returns-in_err-top c =
    let s = c.args.bytes.now in
    rw c.from_residual.ensures (no_top s (letter s c.requires c.if-bytes-ne71.false c.if-bytes-ne44.false) (no_number_then s 2 c.in_err-top.ensures))

pub number_before-requires-2 : goal.number_before-requires-2
number_before-requires-2 c =
    let s = c.args.bytes.now in
    ((number_then s 2 (letter s c.requires c.if-bytes-ne71.false c.if-bytes-ne44.false).place c.in_ok-top.ensures).place, newline_class)

pub returns-in_err-conditions : goal.returns-in_err-conditions
returns-in_err-conditions c =
    let s = c.args.bytes.now in
    let l = letter s c.requires c.if-bytes-ne71.false c.if-bytes-ne44.false in
    rw c.from_residual-in_err-conditions.ensures
    (no_conditions s l (number_then s 2 l.place c.in_ok-top.ensures) (no_number_last s c.in_ok-top.top.end c.in_err-conditions.ensures))

pub returns : goal.returns
returns c =
    let s = c.args.bytes.now in
    let l = letter s c.requires c.if-bytes-ne71.false c.if-bytes-ne44.false in
    a_head s l (number_then s 2 l.place c.in_ok-top.ensures) (number_last s c.in_ok-top.top.end c.in_ok-conditions.ensures)
