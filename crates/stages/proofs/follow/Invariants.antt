-- `follow` negates one lowered condition after the other (`Following`).
use Rattle.stages.proofs.Following.{Following}
use Rattle.stages.proofs.follow.Given as goal

abbrev pub invariant-loop-c : goal.invariant-loop-c
invariant-loop-c l = Following l.source.area l.source.indexed l.initial.scratch l.scratch l.c-iterator.set.now.words l.initial.lows.words l.lows.words
