-- `worklist::waiting_set` meets its contract. The loop's invariant: the words before the word w hold who waits. Assumes nothing.
use Rattle.worklist.proofs.Digits.{Filled}
use Rattle.worklist.proofs.waiting_set.Given as goal

abbrev pub invariant-loop-w : goal.invariant-loop-w
invariant-loop-w l = Filled l.n l.w l.run l.word-items
