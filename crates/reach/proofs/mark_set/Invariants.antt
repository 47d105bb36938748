-- `mark_set` meets its contract. The loop's invariant: the conditions passed are marked.
use Rattle.reach.specs.Sets.{MarksBelow}
use Rattle.reach.proofs.mark_set.Given as goal

abbrev pub invariant-loop-c : goal.invariant-loop-c
invariant-loop-c l = MarksBelow l.c l.set.words l.marks
