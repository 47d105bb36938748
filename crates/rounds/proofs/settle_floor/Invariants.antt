-- `settle_floor` settles the low ends and lowers high ends until none falls (`Flooring`).
use Rattle.rounds.specs.Round.{to_learn}
use Rattle.rounds.proofs.Flooring.{Flooring}
use Rattle.rounds.proofs.settle_floor.Given as goal

abbrev pub invariant-loop-moved : goal.invariant-loop-moved
invariant-loop-moved l = Flooring l.source.area l.marks l.initial.scratch l.scratch l.words.words l.initial.next l.next l.initial.moved l.moved

abbrev pub decreases-loop-moved : goal.decreases-loop-moved
decreases-loop-moved l = to_learn l.source.area l.scratch
