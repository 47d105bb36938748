-- `check_query` meets its contract. Assumes nothing.
use Rattle.std.proofs.Common.{◌∙◌, sym}
use Rattle.semantics.specs.ReadPage.{leftmost}
use Rattle.reader.proofs.Ranges.{else_nothing}
use Rattle.reader.proofs.check.check_query.Goals as goal

pub returns : goal.returns
unfolding leftmost
returns c = c.refuse_if.ensures ∙ sym (else_nothing _)
