-- `worklist::wake_head` meets its contract: a head that wakes is put into the set. Assumes nothing.
use native.Mathlib.Omega.{arith}
use Rattle.worklist.proofs.Matching.{still_inserted}
use Rattle.worklist.proofs.wake_head.Goals as goal

pub returns-then-line_names-clause-set : goal.returns-then-line_names-clause-set
returns-then-line_names-clause-set c =
    let l = c.entry-line.ensures.inside.0 in
    still_inserted c.args.run.now (omega (arith, l, c.requires.1)) l c.insert.ensures.set
