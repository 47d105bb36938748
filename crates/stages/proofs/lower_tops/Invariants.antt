-- `lower_tops` lowers one condition that is looked at after the other (`Lowering`).
use Prim.Native.Nat.{◌<◌}
use Rattle.stages.proofs.Lowering.{to_lower, Lowering}
use Rattle.stages.proofs.lower_tops.Given as goal

abbrev pub invariant-loop-c : goal.invariant-loop-c
invariant-loop-c l = (l.last < 512) × Lowering l.source.area l.source.indexed l.marks l.tops l.initial.scratch l.scratch l.initial.look.words l.look.words l.lowered.words l.fell

abbrev pub decreases-loop-c : goal.decreases-loop-c
decreases-loop-c l = to_lower l.source.area l.scratch l.look.words
