-- `write_lines` meets its contract: a turn writes one entry, `Writing`. Assumes nothing.
use Rattle.reader.proofs.Entries.{line_fits, writing_next, writing_done}
use Rattle.reader.proofs.write.write_lines.Goals as goal

pub write_line-place-requires : goal.write_line-place-requires
write_line-place-requires c = let a = c.args in line_fits a.bytes.now a.from a.area.now a.start c.loop-at.invariant c.loop-at-test.true

pub loop-at-preserved : goal.loop-at-preserved
loop-at-preserved c = let a = c.args in writing_next a.bytes.now a.from a.area.now a.start c.loop-at.invariant c.loop-at-test.true c.write_line-place.ensures

pub returns : goal.returns
returns c = let a = c.args in writing_done a.bytes.now a.from a.area.now a.start c.loop-at.invariant c.loop-at-test.false
