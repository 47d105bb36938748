-- `checked_trial` meets its contract, by the laws of `KnownForms`. Assumes nothing.
use Rattle.list.proofs.KnownForms.{trial_place, trial_known, condition_place, condition_known, low_place, low_known, high_place, high_known, says_known}
use Rattle.list.proofs.parse.checked_trial.Goals as goal

pub checked_number-trial-requires : goal.checked_number-trial-requires
checked_number-trial-requires c = (trial_place c.args.bytes.now c.args.at c.requires.0 c.requires.1, (trial_known c.args.bytes.now c.args.at c.requires.0 c.requires.1).0)

pub checked_number-condition-requires : goal.checked_number-condition-requires
checked_number-condition-requires c = let t = c.checked_number-trial.ensures in (condition_place c.args.bytes.now c.args.at c.requires.0 c.requires.1 t, (condition_known c.args.bytes.now c.args.at c.requires.0 c.requires.1 t).0)

pub checked_number-low-requires : goal.checked_number-low-requires
checked_number-low-requires c = let t = c.checked_number-trial.ensures in let d = c.checked_number-condition.ensures in (low_place c.args.bytes.now c.args.at c.requires.0 c.requires.1 t d, (low_known c.args.bytes.now c.args.at c.requires.0 c.requires.1 t d).0)

pub checked_number-high-requires : goal.checked_number-high-requires
checked_number-high-requires c = let t = c.checked_number-trial.ensures in let d = c.checked_number-condition.ensures in let l = c.checked_number-low.ensures in (high_place c.args.bytes.now c.args.at c.requires.0 c.requires.1 t d l, (high_known c.args.bytes.now c.args.at c.requires.0 c.requires.1 t d l).0)

pub returns : goal.returns
returns c = says_known c.args.bytes.now c.args.at c.requires.0 c.requires.1 c.checked_number-trial.ensures c.checked_number-condition.ensures c.checked_number-low.ensures c.checked_number-high.ensures
