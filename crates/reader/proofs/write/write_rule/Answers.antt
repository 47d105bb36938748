-- `write_rule` meets its contract, by the laws of `KnownForms` and `LiteralCodes`. Assumes nothing.
use mathlib.Core.Path.{refl, sym, ◌∙◌, ap, subst}
use mathlib.Core.List.{List}
use Prim.Native.Nat.{ℕ, ◌+◌}
use native.Mathlib.Omega.{arith}
use lib.ListN.{length, drop}
use borrow.Author.Tests.{leb-true}
use Rattle.fields.specs.Cursor.{fields_at}
use Rattle.fields.proofs.Places.{byte_here}
use Rattle.lines.specs.Lines.{kind_at}
use Rattle.reader.specs.Entries.{Put}
use Rattle.reader.proofs.KnownForms.{an_op, literals_room, literals_place, literals_known, rule_known, rule_codes, put_line}
use Rattle.reader.proofs.LiteralCodes.{literals_count, rule_put}
use Rattle.reader.proofs.write.write_rule.Goals as goal

pub unwrap-kind-requires : goal.unwrap-kind-requires
unwrap-kind-requires c =
    let a = c.args in
    let p = c.requires in
    let k = c.checked_pair-pair.ensures in
    rw (c.op_kind.ensures ∙ ap kind_at (byte_here a.bytes.now c.checked_pair-pair.result.next k.place.inside) ∙ sym (an_op a.bytes.now a.at p.0.formed p.1 k).1) refl

pub write_literals-place-requires : goal.write_literals-place-requires
write_literals-place-requires c =
    let a = c.args in
    let p = c.requires in
    let k = c.checked_pair-pair.ensures in
    (literals_place a.bytes.now a.at p.0.formed p.1 k, (literals_known a.bytes.now a.at p.0.formed p.1 k).1, literals_room a.bytes.now a.at p.0 p.1 k)

pub overflow_cast-count : goal.overflow_cast-count
overflow_cast-count c =
    let a = c.args in
    let p = c.requires in
    let hs = fields_at (drop (c.checked_pair-pair.result.next + 2) a.bytes.now) in
    omega (arith, literals_count a.end c.write_literals-place.ensures, leb-true (length hs) 8 (literals_known a.bytes.now a.at p.0.formed p.1 c.checked_pair-pair.ensures).0)

pub returns : goal.returns
returns c =
    let a = c.args in
    let p = c.requires in
    let k = c.checked_pair-pair.ensures in
    let pair = c.checked_pair-pair.result in
    let y = c.write_literals-place.ensures in
    let hs = fields_at (drop (pair.next + 2) a.bytes.now) in
    let kind = sym c.unwrap-kind.ensures ∙ c.op_kind.ensures ∙ ap kind_at (byte_here a.bytes.now pair.next k.place.inside) in
    let codes = rule_codes a.bytes.now a.at p.0.formed p.1 k kind in
    put_line (rule_known a.bytes.now a.at p.0.formed p.1 k y.ends)
    (subst (λ (l : List ℕ). Put a.area.now a.end l c.put_four.new.area c.write_literals-place.result.end) codes (rule_put a.end y pair.first c.unwrap-kind.result pair.second c.put_four.ensures))
