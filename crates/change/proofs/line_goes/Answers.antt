-- `line_goes` meets its contract: only an F line can go, and does where the trial gives its condition something. Assumes nothing.
use mathlib.Core.Path.{◌∙◌}
use native.Mathlib.Omega.{arith}
use borrow.Author.Tests.{ne_eqb}
use Rattle.change.specs.Trial.{lines_in}
use Rattle.change.proofs.Giving.{given_some}
use Rattle.change.proofs.Keeping.{no_fact_stays, named_goes}
use Rattle.change.proofs.line_goes.Goals as goal

pub returns-else-line-eq0 : goal.returns-else-line-eq0
returns-else-line-eq0 c =
    let k = c.entry-line.ensures.value.kind_is in
    ne_eqb c.entry-line.result.kind 0 (λ e. omega arith) ∙ no_fact_stays (lines_in c.args.lines.now) c.args.page.now c.args.at (λ e. omega (arith, k))

pub returns-then-line-eq0 : goal.returns-then-line-eq0
returns-then-line-eq0 c =
    let e = c.entry-line.ensures.value in
    c.is_some.ensures ∙ given_some c.trial_gives.result
    ∙ named_goes (lines_in c.args.lines.now) c.args.page.now c.args.at (omega (arith, e.kind_is)) (rw e.condition_is at c.trial_gives.ensures)
