-- `parse_pair` meets its contract, by the laws of `Pairs`. Assumes nothing.
use Rattle.std.proofs.Common.{◌≡◌, ℕ, ◌+◌, List, get_or, drop, refl}
use Rattle.fields.specs.Cursor.{InText, fields_at}
use Rattle.fields.proofs.Letters.{LetterThen, letter_here, letter_gone}
use Rattle.fields.proofs.Tokens.{number_then, no_number_then, comma_class}
use Rattle.lines.specs.Lines.{PairLetter}
use Rattle.lines.proofs.Forms.{gone_line}
use Rattle.lines.proofs.Pairs.{pair_plain, no_first, no_second, pair_then}
use Rattle.lines.proofs.parse_pair.Goals as goal

letter : (s : List ℕ) (at : ℕ) → InText s at → PairLetter (get_or s at 10) → get_or s (at + 1) 0 ≡ 44 → LetterThen s at (get_or s at 10)
letter s at p q e = letter_here s at p refl (pair_plain q) e

pub returns-then-bytes-at-ne44 : goal.returns-then-bytes-at-ne44
returns-then-bytes-at-ne44 c = let a = c.args in gone_line (fields_at (drop a.at a.bytes.now)) (letter_gone a.bytes.now a.at c.requires.0 refl (pair_plain c.requires.1) c.if-bytes-at-ne44.true)

pub number_before-requires : goal.number_before-requires
number_before-requires c = let a = c.args in ((letter a.bytes.now a.at c.requires.0 c.requires.1 c.if-bytes-at-ne44.false).place, comma_class)

pub returns-in_err-first : goal.returns-in_err-first
returns-in_err-first c =
    let a = c.args in
    let l = letter a.bytes.now a.at c.requires.0 c.requires.1 c.if-bytes-at-ne44.false in
    rw c.from_residual.ensures (no_first a.bytes.now a.at c.requires.1 l (no_number_then a.bytes.now (a.at + 2) c.in_err-first.ensures))

pub number_before-requires-2 : goal.number_before-requires-2
number_before-requires-2 c =
    let a = c.args in
    let l = letter a.bytes.now a.at c.requires.0 c.requires.1 c.if-bytes-at-ne44.false in
    ((number_then a.bytes.now (a.at + 2) l.place c.in_ok-first.ensures).place, comma_class)

pub returns-in_err-second : goal.returns-in_err-second
returns-in_err-second c =
    let a = c.args in
    let l = letter a.bytes.now a.at c.requires.0 c.requires.1 c.if-bytes-at-ne44.false in
    let n = number_then a.bytes.now (a.at + 2) l.place c.in_ok-first.ensures in
    rw c.from_residual-in_err-second.ensures (no_second a.bytes.now a.at c.requires.1 l n (no_number_then a.bytes.now c.in_ok-first.first.end c.in_err-second.ensures))

pub returns : goal.returns
returns c =
    let a = c.args in
    let l = letter a.bytes.now a.at c.requires.0 c.requires.1 c.if-bytes-at-ne44.false in
    let n = number_then a.bytes.now (a.at + 2) l.place c.in_ok-first.ensures in
    pair_then a.bytes.now a.at c.requires.1 l n (number_then a.bytes.now c.in_ok-first.first.end n.place c.in_ok-second.ensures)
