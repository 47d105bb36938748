-- `refresh` stores one negation after the other (`Refreshing`).
use Rattle.rounds.proofs.Starting.{Refreshing}
use Rattle.rounds.proofs.refresh.Given as goal

abbrev pub invariant-loop-c : goal.invariant-loop-c
invariant-loop-c l = Refreshing l.page l.initial.scratch l.scratch l.c
