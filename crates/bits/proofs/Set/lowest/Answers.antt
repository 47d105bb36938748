-- `bits::Set::lowest` meets its contract. Assumes nothing.
use Rattle.std.proofs.Common.{arith, get_or, ◌<◌, ◌^◌}
use Rattle.bits.proofs.Sets.{nobody, member_lowest, below_lowest}
use Rattle.bits.proofs.Set.lowest.Goals as goal

pub returns-then-x-ne0 : goal.returns-then-x-ne0
returns-then-x-ne0 c =
    let l = c.loop-w in
    let fits : get_or c.args.self.now.words l.w 0 < 2 ^ 64 = omega arith in
    (member_lowest _ l.w fits c.if-x-ne0.true (omega arith), below_lowest _ l.w fits c.if-x-ne0.true l.invariant)

pub returns-after-loop-w : goal.returns-after-loop-w
returns-after-loop-w c = nobody _ (λ v l. c.loop-w.invariant v (omega arith))
