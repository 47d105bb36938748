-- `fall` lowers one condition after the other (`Falling`).
use Rattle.rounds.proofs.Falling.{Falling}
use Rattle.rounds.proofs.fall.Given as goal

abbrev pub invariant-loop-c : goal.invariant-loop-c
invariant-loop-c l = Falling l.source.area l.marks l.source.indexed l.next l.initial.scratch l.initial.words.words l.scratch l.words.words l.fell l.c
