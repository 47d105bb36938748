-- `read_list` meets its contract, by the laws of `Results`. Assumes nothing.
use Rattle.list.proofs.Results.{lines_fit, list_read}
use Rattle.list.proofs.read_list.Goals as goal

pub write_trials-requires : goal.write_trials-requires
write_trials-requires c = lines_fit c.args.bytes.now c.args.top c.args.conditions c.args.list.now c.in_ok-count.ensures c.requires

pub returns : goal.returns
returns c = list_read c.args.bytes.now c.args.top c.args.conditions c.args.list.now c.in_ok-count.ensures c.requires c.write_trials.ensures
