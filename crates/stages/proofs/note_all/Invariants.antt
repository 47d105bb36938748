-- `note_all` notes one line of the page after the other (`NotingPage`).
use mathlib.Core.Path.{◌≡◌}
use Rattle.stages.proofs.Notes.{NotingPage}
use Rattle.stages.proofs.note_all.Given as goal

abbrev pub invariant-loop-at : goal.invariant-loop-at
invariant-loop-at l =
    (l.at-iterator.numbers.now ≡ l.page) × NotingPage l.page l.marks l.initial.scratch l.scratch l.initial.moved.words l.moved.words l.at-iterator.at l.at-iterator.passed
