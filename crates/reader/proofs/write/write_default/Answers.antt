-- `write_default` meets its contract, by the laws of `KnownForms`. Assumes nothing.
use mathlib.Core.Path.{refl}
use Rattle.reader.proofs.KnownForms.{default_place, default_number, default_known, put_line}
use Rattle.reader.proofs.write.write_default.Goals as goal

pub checked_number-condition-requires : goal.checked_number-condition-requires
checked_number-condition-requires c = let a = c.args in let p = c.requires in (default_place a.bytes.now a.at p.0.formed p.1, (default_number a.bytes.now a.at p.0.formed p.1).0)

pub returns : goal.returns
returns c =
    let a = c.args in
    let p = c.requires in
    put_line (default_known a.bytes.now a.at p.0.formed p.1 c.checked_number-condition.ensures) (record { put = c.put_four.ensures; size = refl })
