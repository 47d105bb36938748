-- `layers::look_rule` meets its contract: the literals behind are of the part or done. Assumes nothing.
use Rattle.layers.proofs.Looking.{Looking}
use Rattle.layers.proofs.look_rule.Given as goal

abbrev pub invariant-loop-code : goal.invariant-loop-code
invariant-loop-code l = Looking l.page l.at l.levels l.level l.negated l.code-index
