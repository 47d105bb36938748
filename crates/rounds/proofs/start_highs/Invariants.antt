-- `start_highs` makes the negations fresh, and then starts one high end after the other (`StartingHighs`).
use Rattle.rounds.proofs.Starting.{StartingHighs}
use Rattle.rounds.proofs.start_highs.Given as goal

abbrev pub invariant-loop-c : goal.invariant-loop-c
invariant-loop-c l = StartingHighs l.page l.initial.scratch l.scratch l.c
