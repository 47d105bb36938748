-- `run::drive_steps` meets its contract. Assumes nothing.
use Rattle.page.proofs.Head.{head_of}
use Rattle.worklist.proofs.Matching.{lowest_waits, none_waits}
use Rattle.run.proofs.Driving.{driving_first, driving_rests, driving_spends, driving_next}
use Rattle.run.proofs.drive_steps.Goals as goal

pub loop-c-init : goal.loop-c-init
loop-c-init c = (driving_first _ _ _ c.recall.ensures c.requires.0, c.requires.1, c.requires.2)

pub returns-then-spent : goal.returns-then-spent
returns-then-spent c =
    let i = c.loop-c.invariant in
    let w = lowest_waits i.2 (rw c.in-Some.is at c.lowest.ensures) in
    driving_spends _ _ _ i.0 i.1 w c.if-spent.true

pub loop-c-preserved : goal.loop-c-preserved
loop-c-preserved c =
    let i = c.loop-c.invariant in
    let w = lowest_waits i.2 (rw c.in-Some.is at c.lowest.ensures) in
    let v = c.step.ensures in
    (driving_next _ _ _ i.0 w c.if-spent.false v.evaluated c.held.ensures, v.beside, v.set_kept.kept i.2)

pub returns : goal.returns
returns c =
    let i = c.loop-c.invariant in
    driving_rests _ _ _ i.0 i.1 (none_waits i.2 (rw c.in_default.is at c.lowest.ensures) (head_of c.args.source.now.area i.0.page_solvable).few)
