-- `dependants_of` finds the groups of its keys.
use Rattle.index.proofs.Lookup.{dependants_found}
use Rattle.index.proofs.source.Source.dependants_of.Goals as goal

pub between-requires : goal.between-requires
between-requires c = (dependants_found c.self.view_is c.self.invariant c.in_ok-parts.was c.requires).0

pub returns-clause-found : goal.returns-clause-found
returns-clause-found c = rw c.between.ensures (dependants_found c.self.view_is c.self.invariant c.in_ok-parts.was c.requires).1
