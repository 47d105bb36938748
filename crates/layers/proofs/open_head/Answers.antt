-- `layers::open_head` meets its contract, by the kind of the line. Assumes nothing.
use native.Mathlib.Omega.{arith}
use Rattle.layers.proofs.Beginning.{fact_opened, over_opened}
use Rattle.layers.proofs.open_head.Goals as goal

pub returns-then-line-lt1 : goal.returns-then-line-lt1
returns-then-line-lt1 c = fact_opened c.args.page.now c.args.at c.args.levels.now (omega (arith, c.entry-line.ensures.value.kind_is))

pub returns-else-line-lt6 : goal.returns-else-line-lt6
returns-else-line-lt6 c = over_opened c.args.page.now c.args.at c.args.levels.now (omega (arith, c.entry-line.ensures.value.kind_is))
