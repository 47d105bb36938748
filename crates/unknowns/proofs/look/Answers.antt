-- `look` takes in an F or R line of a condition sought, and does nothing at any other line.
use native.Mathlib.Omega.{arith}
use Rattle.settle.proofs.Raising.{line_head}
use Rattle.unknowns.proofs.look.Goals as goal

pub is_sought-requires : goal.is_sought-requires
is_sought-requires c = let e = c.entry-line.ensures in (c.requires.0.marked, omega (arith, e.value.condition_is, line_head _ e.sound c.requires.2))
