-- `figures_held` meets its contract: the closure is called at queries beside two figures only, and tells whether all are held.
use native.Mathlib.Omega.{arith}
use Prim.Native.Nat.{◌+◌, ◌*◌, ◌≤◌, ◌<◌}
use lib.ListN.{length, get_or}
use borrow.Author.Rules.{rules}
use borrow.Author.Tests.{tests}
use Rattle.std.proofs.lemmas.Iterator.Adapters.{serves_from_places}
use Rattle.std.proofs.lemmas.Iterator.Search.{all_from_yields_List}
use Rattle.fixpoint.specs.Interval.{same}
use Rattle.semantics.specs.Area.{top_of, conditions_of}
use Rattle.picks.specs.Figures.{table_at}
use Rattle.picks.proofs.Comparing.{compared_length, compared_pairs, gives_beside, Pair, pair_at, agrees}
use Rattle.picks.proofs.figures_held.Goals as goal

pub all-requires-clause-callable : goal.all-requires-clause-callable
all-requires-clause-callable c =
    let z = c.args in
    let g = c.requires.2 in
    serves_from_places (gives_beside z.queries.now z.figures.now (cc) (cc) (cc) (omega arith)) (λ x q k. search rules)
    (λ x k l e.
    let p : Pair (conditions_of z.page.now) (x.0.now, x.1.now) = rw e (pair_at (conditions_of z.page.now) z.queries.now z.figures.now c.requires.0 (omega arith) k (x.0.now, x.1.now) l) in
    let two = p.figures in
    let inside : 2 * x.0.now + 1 < length z.values.now = omega (arith, g.long, p.query) in
    let low : get_or z.values.now (2 * x.0.now + 1) 0 ≤ c.top-top.result = rw c.top-top.ensures.value (g.grade (2 * x.0.now + 1) (omega (arith, p.query))) in
    search rules)

pub returns-then-figures-queries : goal.returns-then-figures-queries
returns-then-figures-queries c = compared_length (top_of c.args.page.now) c.args.queries.now c.args.figures.now c.args.values.now c.if-figures-queries.true

pub returns : goal.returns
unfolding same
returns c =
    let z = c.args in
    compared_pairs _ z.queries.now z.figures.now z.values.now (omega arith)
    (all_from_yields_List (agrees (table_at (top_of z.page.now) z.values.now)) c.all.new.self _ _ c.all.ensures.ran
    (gives_beside z.queries.now z.figures.now (cc) (cc) (cc) (omega arith))
    (λ x b q k. search (rules, tests)))
