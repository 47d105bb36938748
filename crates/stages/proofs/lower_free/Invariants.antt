-- `lower_free` lowers one free condition after the other (`Freeing`).
use Rattle.stages.proofs.Freeing.{Freeing}
use Rattle.stages.proofs.lower_free.Given as goal

abbrev pub invariant-loop-c : goal.invariant-loop-c
invariant-loop-c l = Freeing l.source.area l.source.indexed l.marks l.tops l.initial.scratch l.scratch l.initial.look.words l.look.words l.lowered.words l.fell l.c
