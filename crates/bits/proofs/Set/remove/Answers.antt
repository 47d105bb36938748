-- `bits::Set::remove` meets its contract. Assumes nothing.
use Rattle.bits.proofs.Sets.{bit_removed}
use Rattle.bits.proofs.Set.remove.Goals as goal

pub returns : goal.returns
returns c = bit_removed c.args.self.now.words c.args.c c.args.self.now.eight c.requires
