-- `run::drive_steps` meets its contract. The loop's invariant: the whole drive is the evaluations taken and the drive from here on, and all beside the run area is in step with it. Assumes nothing.
use Prim.Native.Nat.{◌-◌}
use Rattle.semantics.specs.Area.{conditions_of}
use Rattle.worklist.specs.Waiting.{WordsMatch}
use Rattle.step.specs.Beside.{Beside}
use Rattle.run.proofs.Driving.{Driving}
use Rattle.run.proofs.drive_steps.Given as goal

abbrev pub invariant-loop-c : goal.invariant-loop-c
invariant-loop-c l = Driving l.source.area l.initial.run l.allowance l.run l.taken l.before × Beside l.source.area l.run l.values × WordsMatch (conditions_of l.source.area) l.run l.waiting.words

abbrev pub decreases-loop-c : goal.decreases-loop-c
decreases-loop-c l = l.allowance - l.taken
