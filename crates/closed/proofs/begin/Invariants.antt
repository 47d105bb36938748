-- `begin` stores both ends of one condition after the other (`Beginning`).
use Rattle.semantics.specs.Area.{top_of, conditions_of}
use Rattle.closed.proofs.Answering.{Beginning}
use Rattle.closed.proofs.begin.Given as goal

abbrev pub invariant-loop-c : goal.invariant-loop-c
invariant-loop-c l = Beginning (conditions_of l.page) (top_of l.page) l.initial.scratch l.scratch l.c
