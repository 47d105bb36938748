-- `put_facts` meets its contract. The loop's invariant: the facts of the conditions passed are written. Assumes nothing.
use Rattle.change.specs.Trial.{lines_in}
use Rattle.change.proofs.Facts.{Facts}
use Rattle.change.proofs.put_facts.Given as goal

abbrev pub invariant-loop-c : goal.invariant-loop-c
invariant-loop-c l = Facts (lines_in l.lines) l.n l.initial.entries l.entries l.c
