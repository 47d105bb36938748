-- `drain` takes out one that waits after the other (`Draining`).
use Prim.Native.Nat.{◌<◌}
use Rattle.value.specs.Table.{side}
use Rattle.settle.proofs.Draining.{left, Draining}
use Rattle.settle.proofs.Figures.drain.Given as goal

abbrev pub invariant-loop-c : goal.invariant-loop-c
invariant-loop-c l = (l.last < 512) × Draining (side l.self.end) l.source.area l.marks l.initial.scratch l.scratch l.words.words l.changed

abbrev pub decreases-loop-c : goal.decreases-loop-c
decreases-loop-c l = left (side l.self.end) l.source.area l.scratch l.words.words
