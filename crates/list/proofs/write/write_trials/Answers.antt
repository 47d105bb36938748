-- `write_trials` meets its contract: a turn writes one line, `Writing`. Assumes nothing.
use native.Mathlib.Omega.{arith}
use Rattle.list.proofs.Writes.{known_here, four_room, writing_next, writing_done}
use Rattle.list.proofs.write.write_trials.Goals as goal

pub checked_trial-known-requires : goal.checked_trial-known-requires
checked_trial-known-requires c = known_here c.args.bytes.now c.args.list.now c.loop-at.invariant c.loop-at-test.true

pub put_trial-requires : goal.put_trial-requires
put_trial-requires c = omega (arith, four_room c.args.bytes.now c.args.list.now c.loop-at.invariant c.loop-at-test.true c.checked_trial-known.ensures)

pub loop-at-preserved : goal.loop-at-preserved
loop-at-preserved c = writing_next c.args.bytes.now c.args.list.now c.loop-at.invariant c.loop-at-test.true c.checked_trial-known.ensures c.put_trial.ensures

pub returns : goal.returns
returns c = writing_done c.args.bytes.now c.args.list.now c.loop-at.invariant c.loop-at-test.false
