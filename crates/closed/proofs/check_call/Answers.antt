-- `check_call` tests the causes in their order.
use Rattle.std.proofs.lemmas.Result.{err_from_is_err_and}
use Rattle.closed.proofs.Answering.{causes_list, causes_18, causes_19, causes_none}
use Rattle.closed.proofs.check_call.Goals as goal

pub returns-in_err-check_queries-clause-cause : goal.returns-in_err-check_queries-clause-cause
returns-in_err-check_queries-clause-cause c =
    let p = err_from_is_err_and c.from_residual.result c.from_residual.ensures.1 in
    rw (p.1, p.2) (causes_list _ _ _ _ c.in-Some.ensures c.conditions-n.ensures.value c.in_err-check_queries.ensures)

pub returns-then-scratch-n-clause-cause : goal.returns-then-scratch-n-clause-cause
returns-then-scratch-n-clause-cause c = causes_18 _ _ _ _ c.in-Some.ensures c.conditions-n.ensures.value c.in_ok-check_queries.ensures c.if-scratch-n.true

pub returns-then-answers-queries-clause-cause : goal.returns-then-answers-queries-clause-cause
returns-then-answers-queries-clause-cause c =
    causes_19 _ _ _ _ c.in-Some.ensures c.conditions-n.ensures.value c.in_ok-check_queries.ensures c.if-scratch-n.false c.if-answers-queries.true

pub returns-clause-cause : goal.returns-clause-cause
returns-clause-cause c =
    causes_none _ _ _ _ c.in-Some.ensures c.conditions-n.ensures.value c.in_ok-check_queries.ensures c.if-scratch-n.false c.if-answers-queries.false
