-- `body::has_low` meets its contract. Assumes nothing.
use Rattle.body.proofs.Searching.{low_of_taken}
use Rattle.body.proofs.has_low.Goals as goal

pub returns-in-None : goal.returns-in-None
returns-in-None c = low_of_taken c.args.page.now c.args.low c.requires.1 c.in-None.ensures.taken
