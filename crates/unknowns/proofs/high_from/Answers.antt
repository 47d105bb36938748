-- `high_from` is 1 less than the entry, or what a condition without lines has.
use mathlib.Core.Path.{ap}
use native.Mathlib.Omega.{arith}
use Rattle.fixpoint.specs.Interval.{Interval}
use Rattle.semantics.specs.Grade.{upper}
use Rattle.page.proofs.Head.{head_of}
use Rattle.value.proofs.Defaults.{bodyless_in}
use Rattle.unknowns.proofs.high_from.Goals as goal

pub overflow_cast-result : goal.overflow_cast-result
overflow_cast-result c = omega (arith, ap (λ (p : Interval). p.high) c.bodyless-body.ensures, bodyless_in c.args.page.now c.args.c upper, (head_of _ c.recall.ensures).top_most)
