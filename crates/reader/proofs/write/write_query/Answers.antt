-- `write_query` meets its contract, by the laws of `KnownForms`. Assumes nothing.
use mathlib.Core.Path.{refl, sym, ◌∙◌, ap}
use mathlib.Core.List.{List}
use Prim.Native.Nat.{ℕ, ◌+◌}
use lib.ListN.{length}
use lib.Seq.{sets}
use Rattle.fields.proofs.Places.{byte_here}
use Rattle.lines.specs.Lines.{reading_at}
use Rattle.reader.proofs.KnownForms.{a_reading, reading_place, condition_place, condition_known, query_known, known_codes, put_line}
use Rattle.reader.proofs.write.write_query.Goals as goal

pub bounds-bytes-at : goal.bounds-bytes-at
bounds-bytes-at c = let a = c.args in let p = c.requires in (reading_place a.bytes.now a.at p.0.formed p.1).inside

pub unwrap-reading-requires : goal.unwrap-reading-requires
unwrap-reading-requires c =
    let a = c.args in
    let p = c.requires in
    rw (c.reading_code.ensures ∙ ap reading_at (byte_here a.bytes.now (a.at + 2) (reading_place a.bytes.now a.at p.0.formed p.1).inside) ∙ sym (a_reading a.bytes.now a.at p.0.formed p.1).1) refl

pub checked_number-condition-requires : goal.checked_number-condition-requires
checked_number-condition-requires c = let a = c.args in let p = c.requires in (condition_place a.bytes.now a.at p.0.formed p.1, (condition_known a.bytes.now a.at p.0.formed p.1).0)

pub returns : goal.returns
returns c =
    let a = c.args in
    let p = c.requires in
    let n = c.checked_number-condition.ensures in
    let e = sym c.unwrap-reading.ensures ∙ c.reading_code.ensures ∙ ap reading_at (byte_here a.bytes.now (a.at + 2) (reading_place a.bytes.now a.at p.0.formed p.1).inside) in
    let codes = known_codes a.bytes.now a.at p.0.formed p.1 n e in
    put_line (query_known a.bytes.now a.at p.0.formed p.1 n) (record { put = c.put_four.ensures ∙ ap (sets a.area.now a.end) codes; size = ap (λ (l : List ℕ). a.end + length l) codes })
