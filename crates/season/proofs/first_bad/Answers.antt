-- `season::first_bad` meets its contract: no pair before the place is bad. Assumes nothing.
use mathlib.Core.Bool.{true, false}
use mathlib.Core.Path.{◌≡◌}
use Prim.Native.Nat.{◌+◌}
use borrow.Author.Rules.{rules}
use borrow.Author.Tests.{tests}
use Rattle.std.specs.Option.{option_map}
use Rattle.std.proofs.lemmas.Iterator.{IsFirst-from_position}
use Rattle.semantics.specs.Season.{pairs_in, bad_pair}
use Rattle.season.proofs.Pairs.{gives_pairs, first_place}
use Rattle.season.proofs.first_bad.Goals as goal

pub returns : goal.returns
returns c =
    let s = c.args.pairs.now in
    let e = c.chunks_exact.ensures in
    let place : c.map.result ≡ option_map (λ i. i + 1) c.position.result = search rules in
    rw place
    (first_place 1 (pairs_in s) c.position.result
    (IsFirst-from_position _ _ _ (λ p. bad_pair p ≡ true) (λ p. bad_pair p ≡ false) c.position.ensures.ran (gives_pairs s e.size e.rest) (λ x q k. search (rules, tests)) (λ x q k. search (rules, tests))))
