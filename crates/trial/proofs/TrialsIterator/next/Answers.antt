-- `Trials::next` gives the lines of the first trial, and leaves the others. Assumes nothing.
use Rattle.trial.proofs.Listing.{first_trial}
use Rattle.trial.proofs.TrialsIterator.next.Goals as goal

pub returns-clause-steps : goal.returns-clause-steps
returns-clause-steps c = rw (c.split_at.ensures.front, c.split_at.ensures.back) (first_trial c.args.self.now.rest.now c.trial_end.ensures)
