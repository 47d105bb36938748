-- `ends::fold_ends` meets its contract (`FoldingBoth`). Assumes nothing.
use Rattle.ends.proofs.Both.{FoldingBoth}
use Rattle.ends.proofs.fold_ends.Given as goal

abbrev pub invariant-loop-code : goal.invariant-loop-code
invariant-loop-code l = FoldingBoth l.codes l.k l.values l.top l.initial.low l.initial.high l.low l.high l.code-index
