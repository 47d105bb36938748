-- `parse_rule` meets its contract, by the laws of `Forms`. Assumes nothing.
use Rattle.std.proofs.Common.{◌≡◌, ℕ, ◌+◌, List, get_or, Some, sym, ◌∙◌, ap}
use Rattle.fields.specs.Cursor.{InText}
use Rattle.fields.proofs.Places.{byte_here}
use Rattle.fields.proofs.Letters.{LetterThen, letter_next, letter_here, letter_gone}
use Rattle.lines.specs.Lines.{kind_at}
use Rattle.lines.proofs.LetterCodes.{kind_plain, zero_kind, none_kind}
use Rattle.lines.proofs.Forms.{no_op, literals_form, rule_says}
use Rattle.lines.proofs.parse_rule.Goals as goal

-- the op letter at a place, of the kind k
module _ (s : List ℕ) (i : ℕ) (p : InText s i) {k : ℕ} (n : Some k ≡ kind_at (get_or s i 0)) where
  next : InText s (i + 1)
  next = letter_next s i p (sym (byte_here s i p.inside)) (kind_plain (get_or s i 0) n)

  letter : get_or s (i + 1) 0 ≡ 44 → LetterThen s i (get_or s i 0)
  letter e = letter_here s i p (sym (byte_here s i p.inside)) (kind_plain (get_or s i 0) n) e

pub returns-in_err-op_kind : goal.returns-in_err-op_kind
returns-in_err-op_kind c =
    let a = c.args in
    let k = c.in_ok-pair.ensures in
    rw c.from_residual-in_err-op_kind.ensures (no_op a.bytes.now a.at c.requires.1 k (none_kind a.bytes.now c.in_ok-pair.pair.next (c.in_err-op_kind.ensures ∙ ap kind_at (byte_here a.bytes.now c.in_ok-pair.pair.next k.place.inside))))

pub bounds-bytes-pair-2 : goal.bounds-bytes-pair-2
bounds-bytes-pair-2 c = (next c.args.bytes.now c.in_ok-pair.pair.next c.in_ok-pair.ensures.place c.in_ok-op_kind.ensures).inside

pub returns-then-bytes-pair-ne44 : goal.returns-then-bytes-pair-ne44
returns-then-bytes-pair-ne44 c =
    let a = c.args in
    let i = c.in_ok-pair.pair.next in
    let k = c.in_ok-pair.ensures in
    no_op a.bytes.now a.at c.requires.1 k
    (zero_kind (letter_gone a.bytes.now i k.place (sym (byte_here a.bytes.now i k.place.inside)) (kind_plain (get_or a.bytes.now i 0) c.in_ok-op_kind.ensures) c.if-bytes-pair-ne44.true))

pub returns-in_err-literals : goal.returns-in_err-literals
returns-in_err-literals c =
    let a = c.args in
    let k = c.in_ok-pair.ensures in
    let o = letter a.bytes.now c.in_ok-pair.pair.next k.place c.in_ok-op_kind.ensures c.if-bytes-pair-ne44.false in
    rw c.from_residual-in_err-literals.ensures (literals_form a.bytes.now a.at c.requires.1 k o c.in_ok-op_kind.ensures ∙ c.in_err-literals.ensures)

pub returns : goal.returns
returns c =
    let a = c.args in
    let k = c.in_ok-pair.ensures in
    let o = letter a.bytes.now c.in_ok-pair.pair.next k.place c.in_ok-op_kind.ensures c.if-bytes-pair-ne44.false in
    rule_says a.bytes.now a.at c.requires.1 k o c.in_ok-op_kind.ensures c.in_ok-literals.ensures
