-- `literals_name` answers as `mentions` does.
use mathlib.Core.Path.{◌≡◌, ◌∙◌}
use Prim.Native.Nat.{◌+◌, ◌-◌, ◌/◌}
use native.Mathlib.Omega.{arith}
use lib.Dec.{eqb}
use lib.ListN.{take, drop}
use Rattle.std.proofs.Common.{rules, tests}
use Rattle.std.proofs.lemmas.Iterator.{YieldsList-from_slice}
use Rattle.std.proofs.lemmas.Iterator.Search.{any_from_yields_List}
use Rattle.page.proofs.Naming.{codes_any}
use Rattle.page.proofs.literals_name.Goals as goal

pub returns : goal.returns
returns c =
    let z = c.args in
    let xs = take (z.from + z.m - z.from) (drop z.from z.a.now) in
    let e : z.from + z.m - z.from ≡ z.m = omega arith in
    rw e at (any_from_yields_List (λ x. eqb (x / 2) z.c) _ _ _ c.any.ensures.ran (YieldsList-from_slice xs cc) (λ x b q k. search (rules, tests)) ∙ codes_any z.c xs)
