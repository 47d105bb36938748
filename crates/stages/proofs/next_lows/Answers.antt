-- `next_lows` takes the index, if there is one.
use Rattle.index.proofs.Lookup.{area_is}
use Rattle.stages.proofs.Notes.{page_noted}
use Rattle.stages.proofs.next_lows.Goals as goal

pub returns-then-not-is_indexed : goal.returns-then-not-is_indexed
returns-then-not-is_indexed c =
    let e = area_is c.source.view_is in
    let v = c.note_all.ensures in
    (page_noted (rw (c.again.ensures, e) at v.sound) (rw (c.again.ensures, e) at v.noted), c.requires.1)
