-- `followers::literals_meet` meets its contract: the closure is called at literals of the rule only. Assumes nothing.
use mathlib.Core.Path.{◌∙◌, ap}
use mathlib.Core.List.{map}
use Prim.Native.Nat.{◌/◌}
use native.Mathlib.Omega.{arith}
use Rattle.std.proofs.Common.{rules, tests}
use Rattle.std.proofs.lemmas.Grind.{get_or_default_zero}
use Rattle.std.proofs.lemmas.Iterator.{YieldsList-from_slice}
use Rattle.std.proofs.lemmas.Iterator.Adapters.{serves_from_places}
use Rattle.std.proofs.lemmas.Iterator.Search.{any_from_yields_List}
use Rattle.semantics.specs.Area.{literal_of}
use Rattle.semantics.specs.Page.{mentions}
use Rattle.bits.specs.Words.{has}
use Rattle.followers.specs.Rows.{meets}
use Rattle.page.proofs.Head.{head_of}
use Rattle.layers.proofs.Literals.{code_below}
use Rattle.followers.proofs.Meeting.{literals_met}
use Rattle.followers.proofs.literals_meet.Goals as goal

pub any-requires-clause-callable : goal.any-requires-clause-callable
any-requires-clause-callable c =
    let s = c.literals in
    let w = head_of c.args.page.now s.ensures.sound in
    serves_from_places (YieldsList-from_slice s.result.now cc) (λ x q k. search rules)
    (λ x k l e.
    let h = code_below c.args.page.now s.ensures.sound c.requires s.ensures.value k (omega arith) in
    let j = get_or_default_zero s.result.now k x.now l in
    λ a p n s f g. omega (arith, w.few))

pub returns : goal.returns
returns c =
    let words = c.args.set.now.words in
    let xs = c.literals.result.now in
    any_from_yields_List (λ k. has words (k / 2)) _ _ _ c.any.ensures.ran (YieldsList-from_slice xs cc) (λ x b q k. search (rules, tests))
    ∙ literals_met words c.args.set.now.eight xs
    ∙ ap (λ codes. meets words (mentions (map literal_of codes))) c.literals.ensures.value
