-- `check_list` meets its contract, by the laws of `Parts`. Assumes nothing.
use borrow.Author.Rules.{rules}
use Rattle.std.proofs.lemmas.Result.{err_from_is_err_and}
use Rattle.list.proofs.Parts.{part_refused, part_unended, part_whole}
use Rattle.list.proofs.check.check_list.Goals as goal

pub returns-in_err-count : goal.returns-in_err-count
returns-in_err-count c =
    let a = c.args in
    let p = err_from_is_err_and c.from_residual.result c.from_residual.ensures.1 in
    rw (p.1, p.2) (part_refused a.bytes.now a.limits.top a.limits.conditions c.ended_length.ensures (rw c.split_at.ensures.front at c.in_err-count.ensures))

pub returns-then-not-is_empty : goal.returns-then-not-is_empty
returns-then-not-is_empty c =
    let a = c.args in
    rw c.at.ensures (part_unended a.bytes.now a.limits.top a.limits.conditions c.ended_length.ensures (rw c.split_at.ensures.front at c.in_ok-count.ensures) (search rules))

pub returns : goal.returns
returns c =
    let a = c.args in
    part_whole a.bytes.now a.limits.top a.limits.conditions c.ended_length.ensures (rw c.split_at.ensures.front at c.in_ok-count.ensures) (search rules)
