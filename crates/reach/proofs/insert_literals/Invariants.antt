-- `insert_literals` meets its contract. The loop's invariant: what the literals passed name is in the set, and its new conditions are counted.
use mathlib.Core.List.{map}
use Prim.Native.Nat.{◌≤◌}
use lib.ListN.{length}
use Rattle.semantics.specs.Area.{literal_of}
use Rattle.semantics.specs.Page.{mentions}
use Rattle.reach.proofs.Inserting.{Inserting}
use Rattle.reach.proofs.Naming.{named_from}
use Rattle.reach.proofs.insert_literals.Given as goal

abbrev pub invariant-loop-code : goal.invariant-loop-code
invariant-loop-code g l = (l.code-index ≤ length l.codes)
    × Inserting (mentions (map literal_of l.codes)) (named_from l.codes l.code-index) (g.S.Conditions.holds l.initial.set) (g.S.Conditions.holds l.set) l.new
