-- `pass` meets its contract: each turn makes one fresh condition more that is done, and there are at most C.
use Rattle.semantics.specs.Area.{page_of}
use Rattle.reach.proofs.Passing.{Following}
use Rattle.reach.proofs.pass.Given as goal

abbrev pub invariant-loop-c : goal.invariant-loop-c
invariant-loop-c l = Following (page_of l.page) l.fn.fresh.words l.initial.found.words l.c-iterator.set.now.words l.found.words l.new.words l.reached l.edges
