-- The lines still to come are in range, and each trial has at most 1,024 answers.
use Rattle.std.proofs.Common.{◌+◌, ◌*◌, ◌/◌, ◌≤◌, length}
use Rattle.semantics.specs.Area.{top_of, conditions_of}
use Rattle.trial.specs.Parts.{ListIn}
use Rattle.trials.proofs.print_trials.Given as goal

abbrev pub invariant-loop-lines : goal.invariant-loop-lines
invariant-loop-lines g l =
    let rest = l.lines-iterator.rest.now in
    ListIn (top_of l.page) (conditions_of l.page) rest (length rest / 4) × (l.count + 1024 * (length rest / 4) ≤ 1048576)
