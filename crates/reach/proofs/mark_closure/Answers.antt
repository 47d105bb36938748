-- `mark_closure` marks in the array that the slice is.
use Rattle.reach.proofs.mark_closure.Goals as goal

pub mark_reached-requires : goal.mark_reached-requires
mark_reached-requires c = (c.requires.0, rw c.in-Some.ensures.cases.same c.requires.1)
