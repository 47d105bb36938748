-- `followers::count_followers` meets its contract: each test is a cause of the list, in its order. Assumes nothing.
use native.Mathlib.Omega.{arith}
use Rattle.bits.specs.Words.{has}
use Rattle.reach.proofs.Inserting.{size_most}
use Rattle.followers.proofs.Settled.{answer_10, answer_15, answer_count}
use Rattle.followers.proofs.count_followers.Goals as goal

pub returns-in_default : goal.returns-in_default
returns-in_default c = answer_10 c.args.page.now c.args.condition c.in_default.ensures

pub returns-then-conditions-condition : goal.returns-then-conditions-condition
returns-then-conditions-condition c =
    let p = c.in-Some.ensures in
    let n = rw p.1 at c.conditions.ensures.value in
    answer_15 c.args.page.now c.args.condition p.0 (omega arith)

pub overflow_cast-result : goal.overflow_cast-result
overflow_cast-result c = omega (arith, c.len.ensures, size_most 512 (has c.followers_of-row.result.words))

pub returns : goal.returns
returns c =
    let p = c.in-Some.ensures in
    let n = rw p.1 at c.conditions.ensures.value in
    answer_count c.args.page.now c.args.condition p.0 (omega arith) (rw p.1 at c.followers_of-row.ensures) c.len.ensures
