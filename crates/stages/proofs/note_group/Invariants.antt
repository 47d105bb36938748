-- `note_group` notes one line after the other (`NotingGroup`).
use Rattle.stages.proofs.Notes.{NotingGroup}
use Rattle.stages.proofs.note_group.Given as goal

abbrev pub invariant-loop-at : goal.invariant-loop-at
invariant-loop-at l = NotingGroup l.page l.marks l.places l.initial.scratch l.scratch l.initial.moved.words l.moved.words l.at-index
