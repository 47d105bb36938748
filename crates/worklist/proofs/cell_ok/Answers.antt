-- `worklist::cell_ok` meets its contract. Assumes nothing.
use mathlib.Core.Path.{◌≡◌, ◌∙◌}
use mathlib.Core.Bool.{false}
use Prim.Native.Nat.{◌*◌}
use lib.Dec.{eqb}
use lib.ListN.{get_or}
use borrow.Author.Tests.{ne_eqb}
use native.Mathlib.Omega.{arith}
use Rattle.semantics.specs.RunArea.{interval_at, mark_at}
use Rattle.worklist.proofs.Soundness.{cell_marked, cell_reached, cell_low, cell_high}
use Rattle.worklist.proofs.cell_ok.Goals.{in-0+then-low-eq0, in-0+else-low-eq0, in-1-to-2, in_default}
use Rattle.worklist.proofs.cell_ok.Goals as goal

pub returns-then-high-top : goal.returns-then-high-top
returns-then-high-top c =
    let z = c.args in
    let p = interval_at z.run.now z.c in
    let m = mark_at z.run.now z.c in
    elim c.match-mark.branch [
      | in-0+then-low-eq0 w ↦ w.marked-is ∙ cell_high z.top p m (omega arith) (omega arith) (omega arith) (omega arith) (omega arith)
      | in-0+else-low-eq0 w ↦ let b : eqb (get_or z.run.now (3 * z.c) 0) 0 ≡ false = ne_eqb _ _ w.if-low-eq0.false in w.marked-is ∙ b ∙ cell_low z.top p m (omega arith) (omega arith) (omega arith) (omega arith) w.if-low-eq0.false
      | in-1-to-2 w ↦ w.marked-is ∙ cell_reached z.top p m (omega arith) (omega arith) (omega arith) (omega arith)
      | in_default w ↦ w.marked-is ∙ cell_marked z.top p m (omega arith) (omega arith) (omega arith)
    ]
