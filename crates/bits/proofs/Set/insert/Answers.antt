-- `bits::Set::insert` meets its contract. Assumes nothing.
use Rattle.bits.proofs.Sets.{bit_inserted}
use Rattle.bits.proofs.Set.insert.Goals as goal

pub returns-clause-set : goal.returns-clause-set
returns-clause-set c = bit_inserted c.args.self.now.words c.args.c c.args.self.now.eight c.requires
