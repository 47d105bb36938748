-- `body::body` meets its contract: the largest ends of the lines, or what a condition without lines has. Assumes nothing.
use Rattle.body.proofs.Gathering.{body_found, body_empty}
use Rattle.index.proofs.Lookup.{area_is}
use Rattle.body.proofs.body.Goals as goal

pub returns-in-Some : goal.returns-in-Some
returns-in-Some c = body_found _ _ _ c.in-Some.ensures.sound c.in-Some.ensures.best

pub returns-in-None : goal.returns-in-None
returns-in-None c = body_empty _ _ _ c.in-None.ensures.sound c.in-None.ensures.best (rw (area_is c.source.view_is) at c.bodyless.ensures)
