-- `checked` stands before the first line.
use mathlib.Core.Path.{refl}
use native.Mathlib.Omega.{arith}
use Rattle.page.proofs.LineNumbers.{place_first}
use Rattle.page.proofs.Lines.checked.Goals as goal

pub invariant_of-result : goal.invariant_of-result
invariant_of-result c =
    record { counted = omega arith; scanning = rw c.first_line.ensures c.requires.1; placed = place_first c.args.a.now (c.first_line.ensures, refl) }
