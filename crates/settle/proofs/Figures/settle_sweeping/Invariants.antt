-- `settle_sweeping` looks at all lines until nothing rises (`Settling`).
use Rattle.value.specs.Table.{side}
use Rattle.settle.specs.Scratch.{room_at}
use Rattle.settle.proofs.Settling.{Settling}
use Rattle.settle.proofs.Figures.settle_sweeping.Given as goal

abbrev pub invariant-loop-changed : goal.invariant-loop-changed
invariant-loop-changed l = Settling (side l.self.end) l.page l.marks l.initial.scratch l.scratch l.changed

abbrev pub decreases-loop-changed : goal.decreases-loop-changed
decreases-loop-changed l = room_at (side l.self.end) l.page l.scratch
