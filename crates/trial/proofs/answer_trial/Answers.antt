-- `trial::answer_trial` meets its contract: the trial's page, both readings, the answers behind its number (`Changing`). Assumes nothing.
use mathlib.Core.Path.{ap}
use mathlib.Core.List.{List}
use Prim.Native.Nat.{ℕ}
use native.Mathlib.Omega.{arith}
use lib.ListN.{length}
use Rattle.print.proofs.Writing.{puts_fits}
use Rattle.trial.proofs.Changing.{number_few, lead_is, lead_few, area_solvable, room_for, trial_put}
use Rattle.trial.proofs.answer_trial.Goals as goal

pub invariant_of-changed : goal.invariant_of-changed
invariant_of-changed c = area_solvable c.args.page.now c.requires.0 c.args.lines.now c.requires.1 _ _ c.change.ensures

pub put_field-requires : goal.put_field-requires
put_field-requires c =
    let n = c.new-lead.ensures in
    omega (arith, n.place, ap (λ (l : List ℕ). length l) n.bytes, number_few c.requires.1 c.requires.2)

pub written-requires : goal.written-requires
written-requires c = puts_fits c.put_field.ensures

pub put_lines-requires : goal.put_lines-requires
put_lines-requires c =
    let n = number_few c.requires.1 c.requires.2 in
    let few = lead_few _ c.new-lead.ensures.place c.put_field.ensures c.written.ensures n in
    omega (arith, room_for c.args.page.now c.requires.0 c.args.lines.now c.requires.1 _ _ c.change.ensures _ few, c.requires.3)

pub returns : goal.returns
returns c =
    let z = c.new-lead.ensures.place in
    let f = c.put_field.ensures in
    let w = c.written.ensures in
    let n = number_few c.requires.1 c.requires.2 in
    trial_put c.args.page.now c.requires.0 c.args.lines.now c.requires.1 _ _ c.change.ensures (lead_is _ z f w) (lead_few _ z f w n) c.put_lines.ensures
