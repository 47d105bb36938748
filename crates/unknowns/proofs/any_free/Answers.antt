-- `any_free` asks of one condition after the other, until one is sought.
use mathlib.Core.Path.{refl, ap, ◌∙◌}
use Prim.Native.Nat.{ℕ}
use native.Mathlib.Omega.{arith}
use borrow.Author.Rules.{rules}
use borrow.Author.Tests.{tests}
use Rattle.std.proofs.lemmas.Iterator.{YieldsList-from_range}
use Rattle.std.proofs.lemmas.Iterator.Search.{any_from_yields_List}
use Rattle.semantics.specs.Table.{any_below}
use Rattle.unknowns.specs.NextHighs.{sought}
use Rattle.unknowns.proofs.Sought.{any_in_range}
use Rattle.unknowns.proofs.any_free.Goals as goal

pub returns : goal.returns
returns c =
    let f = sought c.args.page.now c.args.marks.now in
    let n = c.conditions.result in
    any_from_yields_List f _ _ _ c.any.ensures.ran (YieldsList-from_range 0 n n refl (omega arith)) (λ x b q k. search (rules, tests)) ∙ any_in_range f n
    ∙ ap (λ (k : ℕ). any_below k f) c.conditions.ensures.value
