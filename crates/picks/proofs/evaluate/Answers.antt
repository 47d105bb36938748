-- `evaluate` meets its contract: whatever book the table and the sets hold, they then hold the book after the evaluation.
use mathlib.Core.Path.{refl, ◌∙◌, ap}
use Prim.Native.Nat.{◌+◌, ◌*◌}
use native.Mathlib.Omega.{arith}
use lib.ListN.{length, length-set}
use Rattle.fixpoint.specs.Interval.{same}
use Rattle.page.proofs.Head.{head_of}
use Rattle.picks.proofs.Evaluating.{holds_grades, holds_changed, holds_same}
use Rattle.picks.proofs.evaluate.Goals as goal

pub body-new-requires : goal.body-new-requires
body-new-requires c = rw c.scanned-source.ensures (holds_grades c.args.page.now c.requires.1.holds, c.requires.0)

pub held-old-requires : goal.held-old-requires
held-old-requires c =
    let g = (holds_grades c.args.page.now c.requires.1.holds).low in
    (omega (arith, g.long, c.requires.0), rw c.top-top.ensures.value (g.grade (2 * c.args.c + 1) (omega (arith, c.requires.0))))

pub remove-requires : goal.remove-requires
remove-requires c = omega (arith, c.requires.0, (head_of _ c.top-top.ensures.sound).few)

pub returns-then-ne : goal.returns-then-ne
unfolding same
returns-then-ne c =
    let t = c.top-top.ensures in
    let v = rw c.scanned-source.ensures at c.body-new.ensures in
    record {
      size = ap length c.store.ensures ∙ simp length-set;
      kept = λ m b h. rw (c.store.ensures, t.value)
          (holds_changed c.args.page.now h c.args.c c.requires.0 v (rw t.value at c.held-old.ensures) c.ne.ensures (head_of _ t.sound).few _ c.remove.ensures c.if-ne.true c.wake.ensures);
    }

pub returns-else-ne : goal.returns-else-ne
unfolding same
returns-else-ne c =
    let t = c.top-top.ensures in
    let v = rw c.scanned-source.ensures at c.body-new.ensures in
    record {
      size = refl;
      kept = λ m b h. holds_same c.args.page.now h c.args.c c.requires.0 v (rw t.value at c.held-old.ensures) c.ne.ensures (head_of _ t.sound).few _ c.remove.ensures c.if-ne.false;
    }
