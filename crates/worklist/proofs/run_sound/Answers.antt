-- `run_sound` asks of one cell after the other, until one is not sound.
use mathlib.Core.Path.{refl, ◌∙◌}
use native.Mathlib.Omega.{arith}
use borrow.Author.Rules.{rules}
use borrow.Author.Tests.{tests}
use Rattle.std.proofs.lemmas.Iterator.{YieldsList-from_range}
use Rattle.std.proofs.lemmas.Iterator.Search.{all_from_yields_List}
use Rattle.page.proofs.Searching.{all_in_range}
use Rattle.worklist.proofs.Soundness.{cell_ok, run_short, run_long}
use Rattle.worklist.proofs.run_sound.Goals as goal

pub returns-then-run-n : goal.returns-then-run-n
returns-then-run-n c = run_short c.args.page.now c.args.run.now (omega (arith, c.if-run-n.true, c.conditions-n.ensures.value))

pub returns : goal.returns
returns c =
    let run = c.args.run.now in
    let n = c.conditions-n.result in
    let f = cell_ok run c.top-top.result in
    all_from_yields_List f _ _ _ c.all.ensures.ran (YieldsList-from_range 0 n n refl (omega arith)) (λ x b q k. search (rules, tests)) ∙ all_in_range f n
    ∙ run_long c.args.page.now run c.conditions-n.ensures.value c.top-top.ensures.value (omega (arith, c.if-run-n.false))
