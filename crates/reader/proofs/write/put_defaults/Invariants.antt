-- `put_defaults` meets its contract: a turn writes one number, `Numbering`. Assumes nothing.
use Rattle.reader.proofs.Writes.{Numbering}
use Rattle.reader.proofs.write.put_defaults.Given as goal

abbrev pub invariant-loop-c : goal.invariant-loop-c
invariant-loop-c l = Numbering l.initial.area l.conditions l.unknown.words l.area l.c
