-- `line_stale` asks of one literal of a rule after the other; a fact and a query have none.
use native.Mathlib.Omega.{arith}
use Rattle.std.proofs.Common.{◌≡◌, ◌<◌, ◌*◌, rules, tests}
use Rattle.std.proofs.lemmas.Grind.{get_or_default_zero}
use Rattle.std.proofs.lemmas.Iterator.{cases_from_any, YieldsList-from_slice}
use Rattle.std.proofs.lemmas.Iterator.Adapters.{serves_from_places}
use Rattle.semantics.specs.Area.{conditions_of}
use Rattle.rounds.proofs.Stale.{SomeStale, AllFresh, searched_by, rule_here, codes_here, have_among, fact_searched, over_searched}
use Rattle.rounds.proofs.line_stale.Goals as goal

pub any-requires-clause-callable : goal.any-requires-clause-callable
any-requires-clause-callable c =
    let e = c.entry.ensures in
    let r = rule_here c.requires.1 e.value (omega arith) (omega arith) in
    let xs = c.literals.result.now in
    serves_from_places (YieldsList-from_slice xs cc) (λ x q k. search rules)
    (λ x k l i. let small : x.now < 2 * conditions_of c.args.page.now = omega (arith, i, get_or_default_zero xs k x.now l, codes_here _ e.sound r c.literals.ensures.value k l) in search rules)

pub returns-in-1-to-5 : goal.returns-in-1-to-5
returns-in-1-to-5 c =
    let e = c.entry.ensures in
    let r = rule_here c.requires.1 e.value (omega arith) (omega arith) in
    let xs = c.literals.result.now in
    let a = c.args.page.now in
    let s = c.args.scratch.now in
    searched_by a s (λ x code. code ≡ x) xs _
    (cases_from_any _ _ _ (λ x. SomeStale a s) (λ x. AllFresh a s (λ code. code ≡ x)) c.any.ensures.ran (YieldsList-from_slice xs cc) (λ x q k. search (rules, tests)) (λ x q k. search (rules, tests)))
    (have_among a e.sound r c.literals.ensures.value)

pub returns-in_default : goal.returns-in_default
returns-in_default c = fact_searched _ _ _ (omega (arith, c.entry.ensures.value.kind_is))

pub returns-in_default-2 : goal.returns-in_default-2
returns-in_default-2 c = over_searched _ _ _ (omega (arith, c.entry.ensures.value.kind_is))
