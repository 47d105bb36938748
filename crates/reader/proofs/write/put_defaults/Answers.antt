-- `put_defaults` meets its contract: a turn writes one number, `Numbering`. Assumes nothing.
use Rattle.std.proofs.Common.{◌≡◌, refl, ap, ◌∙◌, Bool, true, false}
use mir.Val.{bool_byte}
use Rattle.fixpoint.specs.Sum.{bit}
use Rattle.reader.proofs.Writes.{numbering_next, numbering_done}
use Rattle.reader.proofs.write.put_defaults.Goals as goal

byte-bit : (t : Bool) → bool_byte t ≡ bit t
byte-bit true = refl
byte-bit false = refl

pub loop-c-preserved : goal.loop-c-preserved
loop-c-preserved c =
    let a = c.args in
    rw c.from-in-loop-c.ensures
    (numbering_next a.area.now a.conditions a.unknown.now.words c.loop-c.invariant c.loop-c-test.true (c.from.ensures ∙ byte-bit c.contains.result ∙ ap bit c.contains.ensures))

pub returns : goal.returns
returns c = let a = c.args in numbering_done a.area.now a.conditions a.unknown.now.words c.loop-c.invariant c.loop-c-test.false
