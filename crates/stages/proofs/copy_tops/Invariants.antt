-- `copy_tops` copies the high end of one condition after the other (`Copying`).
use Rattle.stages.proofs.Beginning.{Copying}
use Rattle.stages.proofs.copy_tops.Given as goal

abbrev pub invariant-loop-c : goal.invariant-loop-c
invariant-loop-c l = Copying l.page l.marks l.scratch l.initial.tops l.tops l.c
