-- `layers::check_layers` meets its contract: each test is a cause of the list, in its order. Assumes nothing.
use native.Mathlib.Omega.{arith}
use mathlib.Core.Path.{◌∙◌}
use lib.ListN.{replicate}
use lib.Seq.{length-take-le}
use Rattle.layers.proofs.Checking.{check_10, check_31, check_worked, part_same}
use Rattle.layers.proofs.check_layers.Goals as goal

pub returns-in_default : goal.returns-in_default
returns-in_default c = check_10 c.args.page.now c.args.layers.now c.in_default.ensures

pub returns-then-layers-n : goal.returns-then-layers-n
returns-then-layers-n c =
    let p = c.in-Some.ensures in
    let n = rw p.1 at c.conditions-n.ensures.value in
    check_31 c.args.page.now c.args.layers.now p.0 (omega arith)

pub work-requires : goal.work-requires
work-requires c =
    let n = c.conditions-n.result in
    let e = c.conditions-n.ensures in
    (omega arith, length-take-le n (replicate 512 0) e.few ∙ e.value, part_same 0 n 512)

pub returns : goal.returns
returns c =
    let p = c.in-Some.ensures in
    let n = rw p.1 at c.conditions-n.ensures.value in
    check_worked c.args.page.now c.args.layers.now p.0 (omega arith) (rw p.1 at c.work.ensures)
