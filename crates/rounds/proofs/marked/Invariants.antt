-- `marked` inserts the reached conditions one after the other (`WaitingAll`).
use Rattle.rounds.proofs.AllWaiting.{WaitingAll}
use Rattle.rounds.proofs.marked.Given as goal

abbrev pub invariant-loop-c : goal.invariant-loop-c
invariant-loop-c l = WaitingAll l.n l.marks l.words.words l.c
