-- `start_lows` negates one condition after the other (`StartingLows`).
use Rattle.rounds.proofs.Starting.{StartingLows}
use Rattle.rounds.proofs.start_lows.Given as goal

abbrev pub invariant-loop-c : goal.invariant-loop-c
invariant-loop-c l = StartingLows l.source.area l.source.indexed l.initial.scratch l.initial.words.words l.scratch l.words.words l.c
