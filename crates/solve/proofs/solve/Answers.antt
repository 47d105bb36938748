-- `solve::solve` meets its contract: the queries are noted, and both readings of them written (`Solving`). Assumes nothing.
use mathlib.Core.Path.{◌∙◌}
use native.Mathlib.Omega.{arith}
use Rattle.page.proofs.Head.{head_of}
use Rattle.solve.proofs.Solving.{noted_length, noted_under, ready, closed_solved, figures_solved}
use Rattle.solve.proofs.solve.Goals as goal

pub solve_runs-requires : goal.solve_runs-requires
solve_runs-requires c =
    let a = c.args.page.now in
    let q = c.note_queries-k.ensures in
    (noted_under a q.noted q.sound, omega (arith, noted_length a q.noted, q.noted.within, c.requires.0))

pub solve_over-requires : goal.solve_over-requires
solve_over-requires c =
    let a = c.args.page.now in
    let q = c.note_queries-k.ensures in
    ready a q.noted q.sound _ _ (omega (arith, (head_of a q.sound).few)) (omega (arith, c.requires.1))

pub returns : goal.returns
returns c =
    let a = c.args.page.now in
    let q = c.note_queries-k.ensures in
    figures_solved a q.noted c.args.plain.now _ c.args.closed.now _ c.solve_runs.ensures
    (closed_solved a q.sound (noted_under a q.noted q.sound) c.solve_over.ensures.0)
    (c.solve_runs.auto.answers ∙ c.requires.0) (c.solve_over.auto.answers ∙ c.requires.1)
