-- `numbers_tell` asks of one D number after the other, until one does not tell.
use mathlib.Core.Path.{refl, ◌∙◌}
use native.Mathlib.Omega.{arith}
use borrow.Author.Rules.{rules}
use borrow.Author.Tests.{tests}
use Rattle.std.proofs.lemmas.Iterator.{YieldsList-from_range}
use Rattle.std.proofs.lemmas.Iterator.Search.{all_from_yields_List}
use Rattle.semantics.specs.Area.{conditions_of}
use Rattle.page.specs.Checks.{number_tells}
use Rattle.page.proofs.Searching.{all_in_range}
use Rattle.page.proofs.numbers_tell.Goals as goal

pub returns : goal.returns
returns c =
    let f = number_tells c.args.a.now c.args.seen.now.words in
    let n = conditions_of c.args.a.now in
    all_from_yields_List f _ _ _ c.all.ensures.ran (YieldsList-from_range 0 n n refl (omega arith)) (λ x b q k. search (rules, tests)) ∙ all_in_range f n
