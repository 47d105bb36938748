-- `solve::note_query` meets its contract. Assumes nothing.
use native.Mathlib.Omega.{arith}
use Rattle.page.proofs.LineNumbers.{line_sound}
use Rattle.solve.proofs.Noting.{noted_none, noted_one}
use Rattle.solve.proofs.note_query.Goals as goal

pub returns-then-line-ne6 : goal.returns-then-line-ne6
returns-then-line-ne6 c =
    let e = c.entry-line.ensures in
    noted_none c.args.page.now c.args.queries.now c.args.at c.args.k (line_sound _ e.sound c.requires.0).tests (λ k. c.if-line-ne6.true (omega (arith, e.value.kind_is, k)))

pub returns : goal.returns
returns c =
    let e = c.entry-line.ensures.value in
    rw e.condition_is (noted_one c.args.page.now c.args.queries.now c.args.at c.args.k (omega (arith, e.kind_is, c.if-line-ne6.false)) c.requires.1)
