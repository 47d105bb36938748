-- `bits::Set::any_from` meets its contract. Assumes nothing.
use Rattle.std.proofs.Common.{arith, get_or, ◌+◌, ◌/◌, ◌%◌, ◌<◌, ◌^◌}
use Rattle.bits.proofs.Sets.{nobody, member_masked, member_highest, any_passed}
use Rattle.bits.proofs.Set.any_from.Goals as goal

pub returns-then-y-ne0 : goal.returns-then-y-ne0
returns-then-y-ne0 c =
    let fits : get_or c.args.self.now.words (c.args.from / 64) 0 < 2 ^ 64 = omega arith in
    member_masked c.args.self.now.words (c.args.from / 64) fits _ c.if-y-ne0.true (omega arith)

pub returns-then-z-ne0 : goal.returns-then-z-ne0
returns-then-z-ne0 c =
    let fits : get_or c.args.self.now.words ((c.args.from / 64 + c.loop-passed.passed) % 8) 0 < 2 ^ 64 = omega arith in
    member_highest _ _ fits c.if-z-ne0.true (omega arith)

pub returns : goal.returns
returns c = nobody _ (any_passed c.args.self.now.words c.args.from c.requires (λ p m. c.loop-passed.invariant p (omega arith)))
