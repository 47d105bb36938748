-- `layers::asked` meets its contract: the closure is called at literals of the rule only, and the largest of what it answers is told.
use mathlib.Core.Path.{◌≡◌, ◌∙◌, ap}
use Prim.Native.Nat.{ℕ, ◌+◌, ◌*◌, ◌/◌, ◌%◌, ◌≤◌, ◌<◌}
use native.Mathlib.Omega.{arith}
use lib.ListN.{length, get_or}
use Rattle.std.proofs.Common.{rules}
use Rattle.std.specs.Option.{unwrap_or}
use Rattle.std.proofs.lemmas.Grind.{get_or_default_zero}
use Rattle.std.proofs.lemmas.Iterator.{YieldsList-from_slice, YieldsList-from_map}
use Rattle.std.proofs.lemmas.Iterator.Adapters.{serves_from_places}
use Rattle.std.proofs.lemmas.Iterator.Consumers.{reduce_from_yields_List}
use Rattle.std.proofs.lemmas.List.Folds.{max_of_map}
use Rattle.semantics.specs.Area.{conditions_of}
use Rattle.layers.proofs.Asking.{asked_largest}
use Rattle.layers.proofs.Literals.{code_below}
use Rattle.layers.proofs.asked.Goals as goal

pub max-requires-clause-can : goal.max-requires-clause-can
max-requires-clause-can c =
    let z = c.args in
    let s = c.literals-codes in (
      tt,
      serves_from_places (YieldsList-from_slice s.result.now cc) (λ x q k. search rules)
          (λ x k l e.
          let h = code_below z.page.now s.ensures.sound c.requires.0 s.ensures.value k (omega arith) in
          let q : c.map.result.f.0.now ≡ z.layers.now = ap (λ f. f.0.now) c.map.ensures.closure in
          let w : x.now < 2 * conditions_of z.page.now = omega (arith, get_or_default_zero s.result.now k x.now l) in
          let v : length c.map.result.f.0.now ≡ conditions_of z.page.now = ap length q ∙ c.requires.1 in
          let u : get_or c.map.result.f.0.now (x.now / 2) 0 ≤ 65534 = rw q (c.requires.2 (x.now / 2)) in
          (λ a p n s f. omega arith, λ a p n s f g. omega arith, λ a p n s f g m. omega arith)),
    )

pub returns : goal.returns
returns c =
    let s = c.literals-codes in
    let xs = s.result.now in
    let f : ℕ → ℕ = λ k. get_or c.args.layers.now (k / 2) 0 + k % 2 in
    asked_largest _ s.ensures.sound c.requires.0 _ s.ensures.value (c.unwrap_or.ensures ∙ ap (λ o. unwrap_or o 0) (reduce_from_yields_List _ c.map.result _ c.max.ensures.ran (YieldsList-from_map _ f (YieldsList-from_slice xs cc) c.map.ensures.closure (λ x b q k. search rules))) ∙ max_of_map f xs)
