-- `body::first_line` meets its contract. The loop's invariant: no line passed is the one. Assumes nothing.
use mathlib.Core.Path.{◌≡◌}
use Prim.Native.Nat.{◌-◌}
use Rattle.semantics.specs.Area.{count_of}
use Rattle.body.proofs.Searching.{Searching}
use Rattle.body.proofs.first_line.Given as goal

abbrev pub invariant-loop-at : goal.invariant-loop-at
invariant-loop-at l = (l.lines.numbers.now ≡ l.page) × Searching l.page l.values l.c l.low l.lines.at l.lines.passed

abbrev pub decreases-loop-at : goal.decreases-loop-at
decreases-loop-at l = count_of l.page - l.lines.passed
