-- `write_fact` meets its contract, by the laws of `KnownForms`. Assumes nothing.
use mathlib.Core.Path.{refl}
use Rattle.reader.proofs.KnownForms.{high_known, fact_known, put_line}
use Rattle.reader.proofs.write.write_fact.Goals as goal

pub checked_number-high-requires : goal.checked_number-high-requires
checked_number-high-requires c = let a = c.args in let p = c.requires in let k = c.checked_pair-pair.ensures in (k.place, (high_known a.bytes.now a.at p.0.formed p.1 k).0)

pub returns : goal.returns
returns c = let a = c.args in let p = c.requires in put_line (fact_known a.bytes.now a.at p.0.formed p.1 c.checked_pair-pair.ensures c.checked_number-high.ensures) (record { put = c.put_four.ensures; size = refl })
