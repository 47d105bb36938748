-- `check_picks` meets its contract: the causes of the queries come first, and then the picks are judged.
use Rattle.std.proofs.lemmas.Result.{err_from_is_err_and}
use Rattle.picks.proofs.Judging.{check_10, check_refused, check_none, check_judged}
use Rattle.picks.proofs.check_picks.Goals as goal

pub returns-in_default : goal.returns-in_default
returns-in_default c = check_10 _ _ _ _ c.in_default.ensures

pub returns-in_err-check_queries : goal.returns-in_err-check_queries
returns-in_err-check_queries c =
    let p = err_from_is_err_and c.from_residual.result c.from_residual.ensures.1 in
    let s = c.in-Some.ensures in
    rw (p.1, p.2) (check_refused _ _ _ _ s.0 (rw (c.conditions.ensures.value, s.1) at c.in_err-check_queries.ensures))

pub judge-requires : goal.judge-requires
judge-requires c =
    let s = c.in-Some.ensures in
    let f = rw (c.conditions.ensures.value, s.1) at c.in_ok-check_queries.ensures in
    rw s.1 (check_none c.args.page.now c.args.queries.now c.args.picks.now c.args.figures.now s.0 f)

pub returns : goal.returns
returns c =
    let s = c.in-Some.ensures in
    let fine = rw (c.conditions.ensures.value, s.1) at c.in_ok-check_queries.ensures in
    check_judged _ _ _ _ s.0 fine (rw s.1 at c.judge.ensures)
