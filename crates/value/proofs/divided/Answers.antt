-- `divided` divides with what the end adds. Assumes nothing.
use mathlib.Core.Path.{ap, ◌∙◌}
use Prim.Native.Nat.{ℕ, ◌+◌, ◌/◌}
use native.Mathlib.Omega.{arith}
use Rattle.semantics.specs.Grade.{divided}
use Rattle.value.specs.Table.{side}
use Rattle.value.proofs.Dividing.{adds_small}
use Rattle.value.proofs.divided.Goals as goal

pub quotient-requires : goal.quotient-requires
quotient-requires c = (c.requires.0, omega (arith, c.requires.1, adds_small c.requires.0 (side c.args.end, c.rounding.ensures)))

pub returns : goal.returns
unfolding divided
returns c = c.quotient.ensures ∙ ap (λ (add : ℕ). (c.args.x + add) / c.args.top) c.rounding.ensures
