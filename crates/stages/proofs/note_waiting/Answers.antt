-- `note_waiting` takes out one that waits after the other and notes its lines (`NotingWaiting`).
use mathlib.Core.Path.{◌∙◌}
use Rattle.index.proofs.Lookup.{area_is}
use Rattle.stages.proofs.Notes.{waiting_next}
use Rattle.stages.proofs.note_waiting.Goals as goal

pub loop-c-preserved : goal.loop-c-preserved
loop-c-preserved c =
    let e = area_is c.source.view_is in
    let s = c.in-Some.ensures.steps in
    let g = rw c.unwrap-group.ensures at c.lines_of.ensures.found in
    (waiting_next c.loop-c.invariant.0 s.0.0 c.lines_of.ensures.sound _ s.0.1 g.1 (rw (c.again-page.ensures, e) at c.note_group.ensures), s.1 ∙ c.loop-c.invariant.1)
