-- `ends::rule_ends` folds the op over both ends of the literals and applies the weight. Assumes nothing.
use Rattle.semantics.specs.Area.{top_of}
use Rattle.semantics.specs.Grade.{lower, upper}
use Rattle.value.proofs.RuleEnds.{rule_end_is}
use Rattle.ends.specs.Mirror.{mirrored}
use Rattle.ends.proofs.Rules.{first_negation, ends_foldable, high_folded}
use Rattle.ends.proofs.rule_ends.Goals as goal

pub high_of-requires : goal.high_of-requires
high_of-requires c = let r = rw (← c.page.view_is) at c.requires in first_negation _ c.args.values.now c.args.at c.page.invariant r.0 r.1

pub fold_ends-r-requires : goal.fold_ends-r-requires
fold_ends-r-requires c =
    let r = rw (← c.page.view_is) at c.requires in
    (ends_foldable _ c.args.values.now c.args.at c.page.invariant r.0 r.1 c.high_of.ensures, r.1.least, r.1.most)

pub returns : goal.returns
returns c =
    let z = c.args in
    let r = rw (← c.page.view_is) at c.requires in
    let a = c.page.inside.numbers.now in
    let ok = c.page.invariant in
    rw (← c.page.view_is) (
      rule_end_is a z.values.now z.at r.1 lower ok r.0.low c.fold_ends-r.ensures.low c.divided.ensures,
      rule_end_is a (mirrored (top_of a) z.values.now) z.at r.1 upper ok r.0.high
          (high_folded a z.values.now z.at ok r.0 r.1 c.high_of.ensures c.fold_ends-r.ensures.high)
          c.divided-2.ensures,
    )
