-- `settle_floor` settles the low ends and lowers high ends until none falls (`Flooring`).
use mathlib.Core.Path.{◌∙◌}
use Rattle.rounds.proofs.Flooring.{flooring_first, flooring_last}
use Rattle.rounds.proofs.settle_floor.Goals as goal

pub loop-moved-init : goal.loop-moved-init
loop-moved-init c = flooring_first _ c.recall.ensures _ c.requires.0 c.settle-moved.ensures.0 c.settle-moved.ensures.1

pub returns : goal.returns
returns c = (flooring_last _ c.recall.ensures _ c.loop-moved.invariant c.lower_floor.ensures.0 c.requires.0 c.settle-moved.ensures.0 c.loop-moved-test.false, c.lower_floor.ensures.1, c.lower_floor.ensures.2 ∙ c.loop-moved.invariant.room_for)
