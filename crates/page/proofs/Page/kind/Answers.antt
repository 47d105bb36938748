-- `kind` reads the second number of the entry of a line, which lies in the area.
use Rattle.page.proofs.LineNumbers.{entry_of}
use Rattle.page.proofs.Page.kind.Goals as goal

pub kind_at-requires : goal.kind_at-requires
kind_at-requires c = entry_of c.self.inside.numbers.now c.self.invariant (rw (← c.self.view_is) at c.requires)
