-- `write_line` meets its contract: the writer of its letter. Assumes nothing.
use mathlib.Core.Path.{sym, ◌∙◌}
use native.Mathlib.Omega.{arith}
use Rattle.fields.proofs.Places.{byte_here}
use Rattle.reader.proofs.KnownForms.{must_default}
use Rattle.reader.proofs.write.write_line.Goals as goal

pub write_default-requires : goal.write_default-requires
write_default-requires c = let a = c.args in let b = sym (byte_here a.bytes.now a.at c.requires.formed.place.inside) in (c.requires, must_default a.bytes.now a.at c.requires.formed (λ z. omega (arith, sym b ∙ z)) (λ z. omega (arith, sym b ∙ z)) (λ z. omega (arith, sym b ∙ z)))
