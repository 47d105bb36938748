-- The lines of the list that is read are in range, and what is written first lies in the array for it.
use Rattle.std.proofs.Common.{arith}
use Rattle.page.proofs.Solvable.{sound_solvable}
use Rattle.trial.proofs.Beginning.{begun_fits}
use Rattle.trial.proofs.Listing.{front_in}
use Rattle.trials.proofs.main.Goals as goal

pub written-requires : goal.written-requires
written-requires c = begun_fits _ _ _ _ _ _ c.begin-begun.result c.begin-begun.ensures.begun

pub invariant_of-page : goal.invariant_of-page
invariant_of-page c = sound_solvable _ c.in-Ok.ensures.begun.read.page_sound

pub print_trials-requires : goal.print_trials-requires
print_trials-requires c =
    let r = c.in-Ok.ensures.begun.read in
    (r.page_sound, front_in r.in_range, omega arith)
