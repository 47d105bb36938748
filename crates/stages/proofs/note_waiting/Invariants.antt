-- `note_waiting` takes out one that waits after the other and notes its lines (`NotingWaiting`).
use mathlib.Core.Path.{◌≡◌}
use Rattle.stages.proofs.Notes.{NotingWaiting}
use Rattle.stages.proofs.note_waiting.Given as goal

abbrev pub invariant-loop-c : goal.invariant-loop-c
invariant-loop-c l =
    NotingWaiting l.source.area l.marks l.initial.scratch l.scratch l.initial.moved.words l.moved.words l.c-iterator.set.now.words
    × (l.c-iterator.set.ghost_name ≡ l.initial.c-iterator.set.ghost_name)
