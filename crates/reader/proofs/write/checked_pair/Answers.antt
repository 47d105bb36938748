-- `checked_pair` meets its contract, by the laws of `KnownForms`. Assumes nothing.
use Rattle.reader.proofs.KnownForms.{first_place, first_known, second_place, second_known, pair_known}
use Rattle.reader.proofs.write.checked_pair.Goals as goal

pub checked_number-first-requires : goal.checked_number-first-requires
checked_number-first-requires c = let a = c.args in let p = c.requires in (first_place a.bytes.now a.at p.0 p.1, (first_known a.bytes.now a.at p.0 p.1).0)

pub checked_number-second-requires : goal.checked_number-second-requires
checked_number-second-requires c = let a = c.args in let p = c.requires in let n = c.checked_number-first.ensures in (second_place a.bytes.now a.at p.0 p.1 n, (second_known a.bytes.now a.at p.0 p.1 n).0)

pub returns : goal.returns
returns c = let a = c.args in let p = c.requires in pair_known a.bytes.now a.at p.0 p.1 c.checked_number-first.ensures c.checked_number-second.ensures
