-- `stalls::check_shared` meets its contract. Assumes nothing.
use native.Mathlib.Omega.{arith}
use Rattle.page.proofs.Head.{conditions_is}
use Rattle.stalls.proofs.Refusals.{refuses_10, refuses_60}
use Rattle.stalls.proofs.check_shared.Goals as goal

pub returns-in_default : goal.returns-in_default
returns-in_default c = refuses_10 _ _ c.in_default.ensures

pub returns-then-area-conditions : goal.returns-then-area-conditions
returns-then-area-conditions c =
    let p = c.in-Some.ensures in
    refuses_60 _ _ p.0 (omega (arith, rw p.1 at c.conditions.ensures.value, c.if-area-conditions.true))

pub returns : goal.returns
returns c =
    let p = c.in-Some.ensures in
    (p.1, p.0, omega (arith, rw p.1 at c.conditions.ensures.value, conditions_is c.args.page.now, c.if-area-conditions.false))
