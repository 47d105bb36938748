-- `judge` meets its contract. The loop's invariant: the picks so far waited each, and the book after them is held.
use Rattle.picks.proofs.Judging.{Judging}
use Rattle.picks.proofs.judge.Given as goal

abbrev pub invariant-loop-i : goal.invariant-loop-i
invariant-loop-i l = Judging l.page l.queries l.picks l.reached.words l.waiting.words l.values l.i
