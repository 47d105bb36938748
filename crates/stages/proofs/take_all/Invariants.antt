-- `take_all` takes over one condition that moved after the other (`Taking`).
use Rattle.stages.proofs.Taking.{Taking}
use Rattle.stages.proofs.take_all.Given as goal

abbrev pub invariant-loop-c : goal.invariant-loop-c
invariant-loop-c l = Taking l.source.area l.source.indexed l.initial.scratch l.scratch l.c-iterator.set.now.words l.initial.lows.words l.lows.words l.initial.look.words l.look.words
