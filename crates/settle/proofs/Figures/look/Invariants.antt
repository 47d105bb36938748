-- `look` raises the ends of the heads line by line (`Looked`).
use lib.ListN.{get_or}
use Rattle.value.specs.Table.{side}
use Rattle.settle.specs.Scratch.{Looked}
use Rattle.settle.proofs.Figures.look.Given as goal

abbrev pub invariant-loop-at : goal.invariant-loop-at
invariant-loop-at l = Looked (side l.self.end) l.page l.marks (λ i. get_or l.places i 0) l.at-index l.initial.scratch l.scratch l.rose
