-- Each trial's lines are in range, and the last line has room: the count has at most seven digits.
use Rattle.std.proofs.Common.{ap, length, List, ℕ, arith}
use Rattle.semantics.proofs.TextNumbers.{number_seven}
use Rattle.print.proofs.Writing.{puts_fits}
use Rattle.trial.proofs.Listing.{rest_in_range, trial_counted}
use Rattle.trials.proofs.print_trials.Goals as goal

pub written-requires : goal.written-requires
written-requires g c = puts_fits c.answer_trial.ensures.wrote

pub loop-lines-preserved : goal.loop-lines-preserved
loop-lines-preserved g c =
    let i = c.loop-lines.invariant in
    let f = c.in-Some.ensures.steps in
    (rest_in_range f i.0, omega (arith, i.1, c.answer_trial.ensures.few, f.some, f.full, trial_counted f))

pub put_end-requires : goal.put_end-requires
put_end-requires g c =
    let n = c.new-text-2.ensures in
    omega (arith, n.place, ap (λ (l : List ℕ). length l) n.bytes, c.loop-lines.auto.out, number_seven c.loop-lines.count (omega (arith, c.loop-lines.invariant.1)), c.requires.2)

pub written-requires-2 : goal.written-requires-2
written-requires-2 g c = puts_fits c.put_end.ensures
