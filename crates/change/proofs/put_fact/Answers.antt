-- `put_fact` meets its contract: nothing, or four numbers. Assumes nothing.
use native.Mathlib.Omega.{arith}
use Rattle.change.proofs.Facts.{fact_none, fact_one}
use Rattle.change.proofs.put_fact.Goals as goal

pub returns-in_default : goal.returns-in_default
returns-in_default c = fact_none c.args.entries.now c.args.c c.in_default.ensures (omega (arith, c.requires.0))

pub returns-in-Some : goal.returns-in-Some
returns-in-Some c = fact_one c.args.entries.now c.args.c c.in-Some.ensures c.put.ensures
