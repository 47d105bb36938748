-- `begin` writes the four numbers of one condition after the other (`Beginning`).
use Rattle.stages.proofs.Beginning.{Beginning}
use Rattle.stages.proofs.begin.Given as goal

abbrev pub invariant-loop-c : goal.invariant-loop-c
invariant-loop-c l = Beginning l.page l.marks l.initial.scratch l.scratch l.c
