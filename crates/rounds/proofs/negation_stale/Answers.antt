-- `negation_stale` asks of one line after the other.
use Rattle.std.proofs.Common.{[], ◌∷◌, drop, rules, tests}
use Rattle.std.proofs.lemmas.Iterator.{cases_from_any}
use Rattle.std.proofs.lemmas.Iterator.Adapters.{serves_from_places}
use Rattle.semantics.specs.Area.{line_at, count_of}
use Rattle.page.specs.Places.{LineIn}
use Rattle.rounds.specs.Round.{LinesHave}
use Rattle.rounds.proofs.Stale.{SomeStale, AllFresh, searched_by, places, places_in, lines_give, lines_have}
use Rattle.rounds.proofs.negation_stale.Goals as goal

pub any-requires-clause-callable : goal.any-requires-clause-callable
any-requires-clause-callable c =
    let a = c.args.page.now in
    serves_from_places (lines_give c.lines.ensures.scan) (λ x q k. search rules) (λ x k l e. let line : LineIn a x = rw e (places_in a k x l) in search rules)

pub returns : goal.returns
returns c =
    let a = c.args.page.now in
    let s = c.args.scratch.now in
    searched_by a s (λ at. LinesHave (line_at (drop at a) ∷ [])) (places a 0 (count_of a)) _
    (cases_from_any c.any.new.self _ _ (λ at. SomeStale a s) (λ at. AllFresh a s (LinesHave (line_at (drop at a) ∷ []))) c.any.ensures.ran (lines_give c.lines.ensures.scan) (λ x q k. search (rules, tests)) (λ x q k. search (rules, tests)))
    (lines_have a c.lines.ensures.sound)
