-- `find_line` meets its contract: a turn passes one line, `Seeking`. Assumes nothing.
use Rattle.std.proofs.Common.{◌+◌, ◌-◌}
use Rattle.reader.proofs.Shows.{Seeking}
use Rattle.reader.proofs.find_line.Given as goal

abbrev pub invariant-loop-line : goal.invariant-loop-line
invariant-loop-line l = Seeking l.bytes l.number l.at (l.number + 1 - l.line)
