-- `parse_front` meets its contract, by the laws of `Forms`. Assumes nothing.
use Rattle.std.proofs.Common.{◌≡◌, ℕ, ◌+◌, List, get_or, drop, sym, ◌∙◌, arith}
use Rattle.fields.specs.Cursor.{InText, fields_at}
use Rattle.fields.proofs.Places.{byte_here}
use Rattle.fields.proofs.Letters.{LetterThen, plain, letter_next, letter_here, letter_gone}
use Rattle.fields.proofs.Tokens.{number_then, no_number_then, comma_class}
use Rattle.list.proofs.Forms.{other_letter_lem, gone_letter, no_trial, no_condition, front_then}
use Rattle.list.proofs.parse.parse_front.Goals as goal

-- the letter `T` at a place
module _ (s : List ℕ) (at : ℕ) (w : InText s at) (t : get_or s at 0 ≡ 84) where
  first : get_or s at 10 ≡ 84
  first = sym (byte_here s at w.inside) ∙ t

  behind : InText s (at + 1)
  behind = letter_next s at w first (plain 84 (omega arith))

  letter : get_or s (at + 1) 0 ≡ 44 → LetterThen s at 84
  letter e = letter_here s at w first (plain 84 (omega arith)) e

pub returns-then-bytes-at-ne-LETTER : goal.returns-then-bytes-at-ne-LETTER
returns-then-bytes-at-ne-LETTER c = other_letter_lem c.args.bytes.now c.args.at (λ z. c.if-bytes-at-ne-LETTER.true (byte_here c.args.bytes.now c.args.at c.requires.inside ∙ z))

pub returns-then-bytes-at-ne44 : goal.returns-then-bytes-at-ne44
returns-then-bytes-at-ne44 c =
    let a = c.args in gone_letter (fields_at (drop a.at a.bytes.now)) (letter_gone a.bytes.now a.at c.requires (first a.bytes.now a.at c.requires c.if-bytes-at-ne-LETTER.false) (plain 84 (omega arith)) c.if-bytes-at-ne44.true)

pub number_before-requires : goal.number_before-requires
number_before-requires c = let a = c.args in ((letter a.bytes.now a.at c.requires c.if-bytes-at-ne-LETTER.false c.if-bytes-at-ne44.false).place, comma_class)

pub returns-in_err-trial : goal.returns-in_err-trial
returns-in_err-trial c =
    let a = c.args in
    let l = letter a.bytes.now a.at c.requires c.if-bytes-at-ne-LETTER.false c.if-bytes-at-ne44.false in
    rw c.from_residual.ensures (no_trial a.bytes.now a.at l (no_number_then a.bytes.now (a.at + 2) c.in_err-trial.ensures))

pub number_before-requires-2 : goal.number_before-requires-2
number_before-requires-2 c =
    let a = c.args in
    let l = letter a.bytes.now a.at c.requires c.if-bytes-at-ne-LETTER.false c.if-bytes-at-ne44.false in
    ((number_then a.bytes.now (a.at + 2) l.place c.in_ok-trial.ensures).place, comma_class)

pub returns-in_err-condition : goal.returns-in_err-condition
returns-in_err-condition c =
    let a = c.args in
    let l = letter a.bytes.now a.at c.requires c.if-bytes-at-ne-LETTER.false c.if-bytes-at-ne44.false in
    rw c.from_residual-in_err-condition.ensures
    (no_condition a.bytes.now a.at l (number_then a.bytes.now (a.at + 2) l.place c.in_ok-trial.ensures) (no_number_then a.bytes.now c.in_ok-trial.trial.end c.in_err-condition.ensures))

pub returns : goal.returns
returns c =
    let a = c.args in
    let l = letter a.bytes.now a.at c.requires c.if-bytes-at-ne-LETTER.false c.if-bytes-at-ne44.false in
    let t = number_then a.bytes.now (a.at + 2) l.place c.in_ok-trial.ensures in
    front_then a.bytes.now a.at l t (number_then a.bytes.now c.in_ok-trial.trial.end t.place c.in_ok-condition.ensures)
