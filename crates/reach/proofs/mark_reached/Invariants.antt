-- `reach::mark_reached` meets its contract: each pass but the last marks a condition, and there are 512. Assumes nothing.
use Prim.Native.Nat.{◌-◌}
use Rattle.fixpoint.specs.Sum.{count}
use Rattle.semantics.specs.Area.{page_of}
use Rattle.semantics.specs.Table.{member}
use Rattle.reach.proofs.Closing.{Spreading}
use Rattle.reach.proofs.mark_reached.Given as goal

abbrev pub invariant-loop : goal.invariant-loop
invariant-loop l = Spreading (page_of l.page) l.queries l.marks

abbrev pub decreases-loop : goal.decreases-loop
decreases-loop l = 512 - count 512 (member l.marks)
