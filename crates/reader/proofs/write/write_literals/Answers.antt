-- `write_literals` meets its contract: the loop writes one code a turn, `Putting`. Assumes nothing.
use Rattle.reader.proofs.LiteralCodes.{literal_known, putting_more, putting_last}
use Rattle.reader.proofs.write.write_literals.Goals as goal

pub checked_literal-literal-requires : goal.checked_literal-literal-requires
checked_literal-literal-requires c = let a = c.args in (c.loop-e.invariant.passed.place, literal_known a.bytes.now a.at a.area.now a.start c.loop-e.invariant c.requires.1)

pub loop-e-preserved : goal.loop-e-preserved
loop-e-preserved c = let a = c.args in putting_more a.bytes.now a.at a.area.now a.start c.loop-e.invariant c.requires.1 c.checked_literal-literal.ensures c.if-bytes-e-eq10.false

pub returns : goal.returns
returns c = let a = c.args in putting_last a.bytes.now a.at a.area.now a.start c.loop-e.invariant c.requires.1 c.checked_literal-literal.ensures c.if-bytes-e-eq10.true
