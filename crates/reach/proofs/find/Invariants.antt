-- `find` meets its contract: each pass but the last adds a condition, and there are C.
use Prim.Native.Nat.{◌-◌}
use Rattle.semantics.specs.Area.{page_of, conditions_of}
use Rattle.reach.proofs.Passing.{Finding}
use Rattle.reach.proofs.find.Given as goal

abbrev pub invariant-loop-fresh : goal.invariant-loop-fresh
invariant-loop-fresh l = Finding (page_of l.page) l.queries l.set.words l.fresh.words l.passes l.reached l.edges

abbrev pub decreases-loop-fresh : goal.decreases-loop-fresh
decreases-loop-fresh l = conditions_of l.page - l.passes
