-- `settle_sweeping` looks at all lines until nothing rises (`Settling`).
use Rattle.settle.proofs.Settling.{settling_last, swept}
use Rattle.settle.proofs.Figures.settle_sweeping.Goals as goal

pub returns : goal.returns
returns c =
    let s = c.sweep.ensures in
    let w = swept _ _ _ s.sound (rw c.loop-changed-test.false at s.looked) in
    rw w.0 (settling_last _ _ _ s.sound c.loop-changed.invariant w.1)
