-- `body::by_places` meets its contract. The loop's invariant: the lines at the places that are passed are taken in. Assumes nothing.
use Rattle.body.proofs.Gathering.{Gathering, Listed}
use Rattle.body.proofs.by_places.Given as goal

abbrev pub invariant-loop-at : goal.invariant-loop-at
invariant-loop-at l = Gathering l.page l.values l.c (Listed l.places l.at-index) l.best
