-- `line_names` reads a line, whose entry lies in the area.
use Rattle.page.proofs.LineNumbers.{entry_of}
use Rattle.page.proofs.Page.line_names.Goals as goal

pub line_names-requires : goal.line_names-requires
line_names-requires c = entry_of c.self.inside.numbers.now c.self.invariant (rw (← c.self.view_is) at c.requires)
