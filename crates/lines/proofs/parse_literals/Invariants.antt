-- `parse_literals` meets its contract: the loop reads one literal a turn, `Counting`; k of them are passed. Assumes nothing.
use mathlib.Core.Path.{◌≡◌}
use Prim.Native.Nat.{ℕ, ◌+◌}
use Rattle.lines.proofs.LiteralFields.{Counting}
use Rattle.lines.proofs.parse_literals.Given as goal

abbrev pub invariant-loop-count : goal.invariant-loop-count
invariant-loop-count l = (k : ℕ) × (k + 1 ≡ l.count) × Counting l.bytes l.at l.conditions k l.far l.i
