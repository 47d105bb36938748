-- `parse_query` meets its contract, by the laws of `Forms`. Assumes nothing.
use Rattle.std.proofs.Common.{◌≡◌, ℕ, ◌+◌, List, get_or, drop, Some, None, sym, ◌∙◌, ap, arith}
use Rattle.fields.specs.Cursor.{InText, fields_at, letter_then}
use Rattle.fields.proofs.Places.{byte_here}
use Rattle.fields.proofs.Letters.{LetterThen, plain, letter_next, letter_here, letter_gone}
use Rattle.fields.proofs.Tokens.{number_last, no_number_last, newline_class}
use Rattle.lines.specs.Lines.{reading_at}
use Rattle.lines.proofs.LetterCodes.{reading_plain, zero_reading, none_reading}
use Rattle.lines.proofs.Forms.{gone_line, no_reading_letter, query_place, no_query, a_query}
use Rattle.lines.proofs.parse_query.Goals as goal

letter : (s : List ℕ) (at : ℕ) → InText s at → get_or s at 10 ≡ 81 → get_or s (at + 1) 0 ≡ 44 → LetterThen s at 81
letter s at p b e = letter_here s at p b (plain 81 (omega arith)) e

-- the reading letter at the place i, of the number k
module _ (s : List ℕ) (i : ℕ) (p : InText s i) {k : ℕ} (n : Some k ≡ reading_at (get_or s i 0)) where
  reading_next : InText s (i + 1)
  reading_next = letter_next s i p (sym (byte_here s i p.inside)) (reading_plain (get_or s i 0) n)

  module _ {j : ℕ} (q : i + 1 ≡ j) where
    reading : get_or s j 0 ≡ 44 → LetterThen s i (get_or s i 0)
    reading e = letter_here s i p (sym (byte_here s i p.inside)) (reading_plain (get_or s i 0) n) (ap (λ (x : ℕ). get_or s x 0) q ∙ e)

    no_reading : (get_or s j 0 ≡ 44 → ⊥) → None ≡ reading_at (letter_then (fields_at (drop i s)))
    no_reading e = zero_reading (letter_gone s i p (sym (byte_here s i p.inside)) (reading_plain (get_or s i 0) n) (λ z. e (ap (λ (x : ℕ). get_or s x 0) (sym q) ∙ z)))

three : (at : ℕ) → at + 2 + 1 ≡ at + 3
three at = omega arith

pub returns-then-bytes-at-ne44 : goal.returns-then-bytes-at-ne44
returns-then-bytes-at-ne44 c _ = let a = c.args in gone_line (fields_at (drop a.at a.bytes.now)) (letter_gone a.bytes.now a.at c.requires.0 c.requires.1 (plain 81 (omega arith)) c.if-bytes-at-ne44.true)

pub returns-in_err-reading_code : goal.returns-in_err-reading_code
returns-in_err-reading_code c _ =
    let a = c.args in
    let l = letter a.bytes.now a.at c.requires.0 c.requires.1 c.if-bytes-at-ne44.false in
    rw c.from_residual.ensures (no_reading_letter a.bytes.now a.at l (none_reading a.bytes.now (a.at + 2) (c.in_err-reading_code.ensures ∙ ap reading_at (byte_here a.bytes.now (a.at + 2) l.place.inside))))

pub bounds-bytes-at-3 : goal.bounds-bytes-at-3
bounds-bytes-at-3 c =
    let a = c.args in
    let l = letter a.bytes.now a.at c.requires.0 c.requires.1 c.if-bytes-at-ne44.false in
    omega (arith, (reading_next a.bytes.now (a.at + 2) l.place c.in_ok-reading_code.ensures).inside)

pub returns-then-bytes-at-ne44-2 : goal.returns-then-bytes-at-ne44-2
returns-then-bytes-at-ne44-2 c _ =
    let a = c.args in
    let l = letter a.bytes.now a.at c.requires.0 c.requires.1 c.if-bytes-at-ne44.false in
    no_reading_letter a.bytes.now a.at l (no_reading a.bytes.now (a.at + 2) l.place c.in_ok-reading_code.ensures (three a.at) c.if-bytes-at-ne44-2.true)

pub number_before-requires : goal.number_before-requires
number_before-requires c =
    let a = c.args in
    let l = letter a.bytes.now a.at c.requires.0 c.requires.1 c.if-bytes-at-ne44.false in
    (query_place a.bytes.now a.at l (reading a.bytes.now (a.at + 2) l.place c.in_ok-reading_code.ensures (three a.at) c.if-bytes-at-ne44-2.false), newline_class)

pub returns-in_err-condition : goal.returns-in_err-condition
returns-in_err-condition c _ =
    let a = c.args in
    let l = letter a.bytes.now a.at c.requires.0 c.requires.1 c.if-bytes-at-ne44.false in
    rw c.from_residual-in_err-condition.ensures
    (no_query a.bytes.now a.at l (reading a.bytes.now (a.at + 2) l.place c.in_ok-reading_code.ensures (three a.at) c.if-bytes-at-ne44-2.false) (no_number_last a.bytes.now (a.at + 4) c.in_err-condition.ensures))

pub returns : goal.returns
returns c _ =
    let a = c.args in
    let l = letter a.bytes.now a.at c.requires.0 c.requires.1 c.if-bytes-at-ne44.false in
    let r = reading a.bytes.now (a.at + 2) l.place c.in_ok-reading_code.ensures (three a.at) c.if-bytes-at-ne44-2.false in
    record { reading = _; says = a_query a.bytes.now a.at l r c.in_ok-reading_code.ensures (number_last a.bytes.now (a.at + 4) c.in_ok-condition.ensures) }
