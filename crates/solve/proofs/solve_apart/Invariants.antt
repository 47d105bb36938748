-- `solve::solve_apart` meets its contract: one query after another has a run of its own (`Apart`). Assumes nothing.
use Rattle.semantics.specs.Area.{page_of}
use Rattle.solve.proofs.Solving.{Apart}
use Rattle.solve.proofs.solve_apart.Given as goal

abbrev pub invariant-loop-i : goal.invariant-loop-i
invariant-loop-i l = Apart (page_of l.page) l.queries l.initial.answers l.answers l.i
