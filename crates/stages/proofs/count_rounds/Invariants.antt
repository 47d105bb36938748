-- `count_rounds` goes from assignment to assignment until the floor does not move (`Rounding`).
use Prim.Native.Nat.{◌-◌}
use Rattle.stages.proofs.Counting.{Rounding}
use Rattle.stages.proofs.count_rounds.Given as goal

abbrev pub invariant-loop-look : goal.invariant-loop-look
invariant-loop-look l = Rounding l.source.area l.marks l.source.indexed l.initial.tops l.tops l.initial.scratch l.scratch l.look.words l.lows.words l.k

abbrev pub decreases-loop-look : goal.decreases-loop-look
decreases-loop-look l = 102400 - l.k
