-- `lines`: the lines of a page pass their tests.
use Rattle.page.proofs.Head.{head_of}
use Rattle.page.proofs.Scanning.{scanning_first}
use Rattle.page.proofs.Page.lines.Goals as goal

pub checked-requires : goal.checked-requires
checked-requires c = ((head_of c.self.inside.numbers.now c.self.invariant).four, scanning_first c.self.inside.numbers.now c.self.invariant)
