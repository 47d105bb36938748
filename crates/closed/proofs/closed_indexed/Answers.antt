-- `closed_indexed` refuses, or solves, counts and clears (`accepted`).
use native.Mathlib.Omega.{arith}
use Rattle.std.proofs.lemmas.Result.{err_from_is_err_and}
use Rattle.closed.proofs.Answering.{refused_by, solve_ready, accepted, workspace_used, workspace_kept}
use Rattle.closed.proofs.closed_indexed.Goals as goal

pub returns-in_err-page : goal.returns-in_err-page
returns-in_err-page c =
    let p = err_from_is_err_and c.from_residual.result c.from_residual.ensures.1 in
    let e = c.in_err-page.ensures.cause in
    rw (p.1, p.2) (refused_by _ _ _ _ e, workspace_kept _ _ _ _ e)

pub solve_over-rounds-requires : goal.solve_over-rounds-requires
solve_over-rounds-requires c = let e = c.in_ok-page.ensures in rw e.same (solve_ready _ _ _ _ e.cause)

pub clear-requires : goal.clear-requires
clear-requires c =
    let e = c.in_ok-page.ensures in
    let n = c.conditions.ensures in
    let s = rw e.same at c.solve_over-rounds.ensures.0 in
    (omega (arith, rw e.same at n.value, (solve_ready _ _ _ _ e.cause).long, s.same_length), n.few)

pub returns : goal.returns
returns c =
    let e = c.in_ok-page.ensures in
    let s = rw e.same at c.solve_over-rounds.ensures in
    (accepted _ _ _ _ e.cause s.0 (rw (c.conditions.ensures.value, e.same) at c.clear.ensures), workspace_used _ _ _ _ e.cause _ s.1)
