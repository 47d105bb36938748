-- `digits_from` meets its contract, by the laws of `ReadDigits`. Assumes nothing.
use Rattle.fields.proofs.ReadDigits.{digit_next, one_only, third_place, not_zero, two_only, three_all}
use Rattle.fields.proofs.digits_from.Goals as goal

pub bounds-bytes-at : goal.bounds-bytes-at
bounds-bytes-at c = let a = c.args in let k = c.requires in (digit_next a.bytes.now a.at k.place k.digit).inside

pub returns-in_default : goal.returns-in_default
returns-in_default c =
    let a = c.args in
    let k = c.requires in
    one_only a.bytes.now a.at k.place k.digit c.in_default.ensures

pub bounds-bytes-at-2 : goal.bounds-bytes-at-2
bounds-bytes-at-2 c = let a = c.args in let k = c.requires in (third_place a.bytes.now a.at k.place k.digit c.in-Some.ensures).inside

pub returns-in_default-digit : goal.returns-in_default-digit
returns-in_default-digit c =
    let a = c.args in
    let k = c.requires in
    let q = c.in-Some.ensures in
    two_only a.bytes.now a.at k.place k.digit q (not_zero a.bytes.now a.at k.place k.digit q k.leads) c.in_default-digit.ensures

pub returns : goal.returns
returns c =
    let a = c.args in
    let k = c.requires in
    let q = c.in-Some.ensures in
    three_all a.bytes.now a.at k.place k.digit q (not_zero a.bytes.now a.at k.place k.digit q k.leads) c.in-Some-digit.ensures
