-- `season::larger_of` meets its contract. Assumes nothing.
use mathlib.Core.Path.{◌≡◌}
use lib.IntN.{nat_abs}
use borrow.Author.Rules.{rules}
use borrow.Author.Tests.{tests}
use Rattle.std.specs.Ordering.{ord_max, on}
use Rattle.std.proofs.Common.{nat_cmp}
use Rattle.std.proofs.Math.Facts.{to_z-of_z}
use Rattle.std.proofs.lemmas.Fn.{always_returns_same}
use Rattle.semantics.specs.Season.{larger}
use Rattle.season.proofs.larger_of.Goals as goal

pub returns : goal.returns
returns c =
    let a = c.args in
    let k = c.max_by_key.ensures nat_abs (always_returns_same _ _ _ (λ a r f k. search (rules, tests))) in
    let e : c.max_by_key.result ≡ ord_max (on nat_abs nat_cmp) a.later a.earlier = rw (to_z-of_z c.ranges.later, to_z-of_z c.ranges.earlier) at k in
    let f : ord_max (on nat_abs nat_cmp) a.later a.earlier ≡ larger a.earlier a.later = search (rules, tests) in
    search rules
