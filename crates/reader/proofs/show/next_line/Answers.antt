-- `next_line` meets its contract, by the laws of `Shows`. Assumes nothing.
use Rattle.reader.proofs.Shows.{next_line, no_next_line}
use Rattle.reader.proofs.show.next_line.Goals as goal

pub returns-then-end-bytes : goal.returns-then-end-bytes
returns-then-end-bytes c = next_line c.args.bytes.now c.args.at c.line_end-end.result c.line_end-end.ensures c.if-end-bytes.true

pub returns : goal.returns
returns c = no_next_line c.args.bytes.now c.args.at c.line_end-end.result c.line_end-end.ensures c.if-end-bytes.false
