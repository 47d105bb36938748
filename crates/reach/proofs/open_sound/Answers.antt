-- `open_sound` meets its contract: each test is a cause of the list, in its order.
use mathlib.Core.Path.{◌∙◌}
use Rattle.std.proofs.lemmas.Result.{err_from_is_err_and}
use Rattle.reach.proofs.Refusals.{open_refused, open_13, open_none}
use Rattle.reach.proofs.open_sound.Goals as goal

pub returns-in_err-check_queries : goal.returns-in_err-check_queries
returns-in_err-check_queries c =
    let p = err_from_is_err_and c.from_residual.result c.from_residual.ensures.1 in
    let e = rw c.conditions-n.ensures.value at c.in_err-check_queries.ensures in
    let t = open_refused c.args.page.now c.args.queries.now c.args.run.now c.requires e in
    rw (p.1, p.2) (record { answer = t.0; left = t.1 })

pub returns-then-run-n : goal.returns-then-run-n
returns-then-run-n c =
    let n = c.conditions-n.ensures.value in
    let t = open_13 c.args.page.now c.args.queries.now c.args.run.now c.requires (rw n at c.in_ok-check_queries.ensures) (rw n at c.if-run-n.true) in
    record { answer = t.0; left = t.1 }

pub returns : goal.returns
returns c =
    let n = c.conditions-n.ensures.value in
    let a = c.open_accepted.ensures in
    let t = open_none c.args.page.now c.args.queries.now c.args.run.now c.requires (rw n at c.in_ok-check_queries.ensures) (rw n at c.if-run-n.false) in
    record { answer = a.answer ∙ t.0; left = a.left ∙ t.1 }
