-- `worklist::wake_heads` meets its contract. The loop's invariant: the heads passed are woken, in the marks and in the set. Assumes nothing.
use Rattle.worklist.specs.Woken.{HeadsWoken, SetKept}
use Rattle.worklist.proofs.wake_heads.Given as goal

abbrev pub invariant-loop-h : goal.invariant-loop-h
invariant-loop-h l = HeadsWoken l.heads l.h-index l.initial.run l.run × SetKept l.heads l.h-index l.initial.run l.initial.waiting.words l.run l.waiting.words
