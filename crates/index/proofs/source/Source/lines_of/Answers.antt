-- `lines_of` finds the group of its key.
use Rattle.index.proofs.Lookup.{lines_found}
use Rattle.index.proofs.source.Source.lines_of.Goals as goal

pub between-requires : goal.between-requires
between-requires c = (lines_found c.self.view_is c.self.invariant c.in_ok-parts.was c.requires).0

pub returns-clause-found : goal.returns-clause-found
returns-clause-found c = rw c.between.ensures (lines_found c.self.view_is c.self.invariant c.in_ok-parts.was c.requires).1
