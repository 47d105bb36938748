-- `ends::fill` meets its contract: the numbers of one condition more are stored. Assumes nothing.
use mathlib.Core.Path.{refl}
use native.Mathlib.Omega.{arith}
use lib.ListN.{length-set}
use Rattle.semantics.specs.Grade.{lower}
use Rattle.semantics.specs.RunArea.{interval_at}
use Rattle.ends.proofs.Stores.{table_more}
use Rattle.ends.proofs.fill.Goals as goal

pub loop-c-preserved : goal.loop-c-preserved
loop-c-preserved c =
    let i = c.loop-c.invariant in
    rw c.store.ensures
    (simp length-set i.0, table_more lower c.args.top c.loop-c.c (interval_at c.args.run.now) c.loop-c.values (omega (arith, c.requires.1, i.0)) i.1 refl refl)
