-- `ends::fill` meets its contract. The loop's invariant: the numbers of the conditions passed stand in the table. Assumes nothing.
use mathlib.Core.Path.{◌≡◌}
use lib.ListN.{length}
use Rattle.semantics.specs.Grade.{lower}
use Rattle.semantics.specs.RunArea.{interval_at}
use Rattle.value.specs.Table.{EndTable}
use Rattle.ends.proofs.fill.Given as goal

abbrev pub invariant-loop-c : goal.invariant-loop-c
invariant-loop-c l = (length l.values ≡ length l.initial.values) × EndTable lower l.top l.c (interval_at l.run) l.values
