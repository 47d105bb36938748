-- `line_gives` meets its contract: one comparison. Assumes nothing.
use native.Mathlib.Omega.{arith}
use Rattle.change.proofs.Giving.{line_other, line_same}
use Rattle.change.proofs.line_gives.Goals as goal

pub returns-then-line-c : goal.returns-then-line-c
returns-then-line-c c = line_other c.args.line.now c.args.c (λ e. omega arith)

pub returns : goal.returns
returns c = line_same c.args.line.now c.args.c (omega arith)
