-- `wake` inserts one head of the group after the other (`Joined`).
use Rattle.settle.proofs.Waking.{Joined}
use Rattle.settle.proofs.wake.Given as goal

abbrev pub invariant-loop-h : goal.invariant-loop-h
invariant-loop-h l = Joined l.heads l.h-index l.initial.words.words l.words.words
