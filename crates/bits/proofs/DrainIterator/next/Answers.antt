-- `Drain::next` tells the one that comes first and leaves one less in the set.
use borrow.Author.Rules.{rules}
use Rattle.bits.proofs.Members.{fewer}
use Rattle.bits.proofs.DrainIterator.next.Goals as goal

pub remove-requires : goal.remove-requires
remove-requires c = (c.args.self.now.found c.in_ok-c.c c.in_ok-c.was).within

pub next_from-self-requires : goal.next_from-self-requires
next_from-self-requires c = (c.args.self.now.found c.in_ok-c.c c.in_ok-c.was).within

pub returns-clause-steps : goal.returns-clause-steps
returns-clause-steps c =
    let m = c.args.self.now.found c.in_ok-c.c c.in_ok-c.was in
    search rules

pub returns-clause-goes : goal.returns-clause-goes
returns-clause-goes c =
    let m = c.args.self.now.found c.in_ok-c.c c.in_ok-c.was in
    let f = fewer _ _ _ c.remove.ensures m.within m.found in
    search rules
