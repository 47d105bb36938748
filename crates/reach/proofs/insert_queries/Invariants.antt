-- `insert_queries` meets its contract. The loop's invariant: the queries passed are in the set.
use Prim.Native.Nat.{◌≤◌}
use lib.ListN.{length, drop}
use Rattle.semantics.specs.Table.{listed}
use Rattle.reach.proofs.Inserting.{Joining}
use Rattle.reach.proofs.insert_queries.Given as goal

abbrev pub invariant-loop-c : goal.invariant-loop-c
invariant-loop-c g l = (l.c-index ≤ length l.queries) × Joining (λ c. listed c l.queries) (λ c. listed c (drop l.c-index l.queries)) (g.S.Conditions.holds l.initial.set) (g.S.Conditions.holds l.set)
