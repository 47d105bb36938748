-- `write_ends` stores both ends of one query after the other (`Answering`).
use Rattle.closed.specs.Solving.{ends_at}
use Rattle.closed.proofs.Answering.{Answering}
use Rattle.closed.proofs.write_ends.Given as goal

abbrev pub invariant-loop-i : goal.invariant-loop-i
invariant-loop-i l = Answering (ends_at l.table l.step l.gap) l.queries l.initial.answers l.answers l.i
