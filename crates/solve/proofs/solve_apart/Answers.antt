-- `solve::solve_apart` meets its contract: one query after another has a run of its own (`Apart`). Assumes nothing.
use mathlib.Core.Path.{ap}
use native.Mathlib.Omega.{arith}
use Prim.Native.Nat.{◌-◌, ◌*◌}
use lib.ListN.{length, drop, length-take, length-drop}
use Rattle.semantics.specs.Area.{conditions_of}
use Rattle.solve.proofs.Solving.{one_query, one_under, apart_next}
use Rattle.solve.proofs.solve_apart.Goals as goal

pub solve_plain-requires : goal.solve_plain-requires
solve_plain-requires c =
    let l = c.loop-i in
    let qs = c.args.queries.now in
    (one_under (conditions_of c.args.page.now) qs c.requires.0 l.i (omega arith), omega (arith, ap length (one_query qs l.i (omega arith)), length-take (length l.answers - 2 * l.i) (drop (2 * l.i) l.answers), length-drop (2 * l.i) l.answers, l.auto.answers, c.requires.1))

pub loop-i-preserved : goal.loop-i-preserved
loop-i-preserved c = let l = c.loop-i in apart_next _ _ _ l.invariant (omega arith) (omega (arith, l.auto.answers, c.requires.1)) c.solve_plain.ensures
