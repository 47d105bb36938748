-- `write_run` meets its contract.
use Prim.Native.Nat.{◌+◌, ◌*◌, ◌≤◌}
use native.Mathlib.Omega.{arith}
use lib.ListN.{length}
use Rattle.reach.proofs.Writing.{written_next}
use Rattle.reach.proofs.write_run.Goals as goal

pub loop-c-preserved : goal.loop-c-preserved
loop-c-preserved c =
    let h = c.loop-c in
    let k : 3 * h.c + 3 ≤ length h.run = omega (arith, c.requires.0, h.invariant.size) in
    written_next _ _ _ h.invariant k c.first_mark-mark.ensures c.store_cell.ensures
