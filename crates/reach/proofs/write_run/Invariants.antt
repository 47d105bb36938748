-- `write_run` meets its contract. The loop's invariant: the conditions passed are written.
use Rattle.reach.specs.Opening.{Written}
use Rattle.reach.proofs.write_run.Given as goal

abbrev pub invariant-loop-c : goal.invariant-loop-c
invariant-loop-c l = Written l.c l.top l.marks l.initial.run l.run
