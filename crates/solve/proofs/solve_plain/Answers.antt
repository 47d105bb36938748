-- `solve::solve_plain` meets its contract: the run of the queries is opened, driven, and read (`Solving`). Assumes nothing.
use mathlib.Core.Path.{◌∙◌}
use native.Mathlib.Omega.{arith}
use lib.Seq.{length-take-le}
use Rattle.semantics.specs.Area.{conditions_of}
use Rattle.reach.proofs.Marking.{unmarked}
use Rattle.solve.proofs.Solving.{opened_sound, plain_solved, under_at}
use Rattle.solve.proofs.solve_plain.Goals as goal

pub mark_reached-requires : goal.mark_reached-requires
mark_reached-requires c = (c.requires.0, unmarked)

pub drive_built-requires : goal.drive_built-requires
drive_built-requires c =
    let n = c.conditions.ensures in
    let m = c.index_length-m.ensures in
    let w = rw (n.value, c.top.ensures.value) at c.write_run.ensures in (
      opened_sound c.args.page.now n.sound c.args.queries.now c.requires.0 _ (omega (arith, n.value, n.few)) c.mark_reached.ensures w,
      length-take-le _ _ (omega (arith, c.told-workspace, m.1)) ∙ m.0,
    )

pub write_ends-requires : goal.write_ends-requires
write_ends-requires c =
    let n = c.conditions.ensures in
    (λ k l. omega (arith, under_at (conditions_of c.args.page.now) c.args.queries.now c.requires.0 k l, n.value, n.few, c.drive_built.auto.run), c.requires.1)

pub returns : goal.returns
returns c =
    let n = c.conditions.ensures in
    let w = rw (n.value, c.top.ensures.value) at c.write_run.ensures in
    plain_solved c.args.page.now n.sound c.args.queries.now c.requires.0 _ (omega (arith, n.value, n.few)) c.mark_reached.ensures w
    c.args.answers.now _ c.drive_built.ensures c.write_ends.ensures
