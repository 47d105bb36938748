-- `bits::Set::absorb` meets its contract. Assumes nothing.
use Rattle.std.proofs.Common.{arith, get_or, ◌<◌, ◌^◌}
use Rattle.bits.proofs.Sets.{changing_first, changing_next, joined, joined_new, absorbed}
use Rattle.bits.proofs.Set.absorb.Goals as goal

pub loop-k-init : goal.loop-k-init
loop-k-init c = (changing_first c.args.self.now.eight, changing_first c.args.waiting.now.eight)

pub loop-k-preserved : goal.loop-k-preserved
loop-k-preserved c =
    let h = c.loop-k in
    let z = c.args in
    let e = h.invariant.0.ahead h.k (omega arith) in
    let f : get_or h.self.words h.k 0 < 2 ^ 64 = omega arith in (
      changing_next h.invariant.0 (omega arith) (joined z.named.now.words z.self.now.words z.waiting.now.words h.k e),
      changing_next h.invariant.1 (omega arith) (joined_new z.named.now.words z.self.now.words z.waiting.now.words h.k e f (h.invariant.1.ahead h.k (omega arith))),
    )

pub returns : goal.returns
returns c = absorbed _ _ _ c.loop-k.invariant.0 c.loop-k.invariant.1 (omega arith)
