-- `note_all` notes one line of the page after the other (`NotingPage`).
use Rattle.page.proofs.Steps.{stepped}
use Rattle.stages.proofs.Notes.{page_next}
use Rattle.stages.proofs.note_all.Goals as goal

pub loop-at-preserved : goal.loop-at-preserved
loop-at-preserved c = let s = stepped c.loop-at.invariant.0 c.in-Some.ensures.steps in (s.same, page_next c.loop-at.invariant.1 s.more (rw s.here at c.note.ensures) s.next)
