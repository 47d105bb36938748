-- `insert_literals` meets its contract.
use mathlib.Core.Path.{◌≡◌}
use Prim.Native.Nat.{◌+◌}
use native.Mathlib.Omega.{arith}
use Rattle.reach.proofs.Inserting.{inserting_last, inserting_few, inserts_told}
use Rattle.reach.proofs.Naming.{named_none, literal_small, literal_next}
use Rattle.reach.proofs.insert_literals.Goals.{then-add, else-add}
use Rattle.reach.proofs.insert_literals.Goals as goal

pub add-requires : goal.add-requires
add-requires g c = literal_small c.args.codes.now c.requires c.loop-code.code-index (omega arith)

pub overflow_add-new : goal.overflow_add-new
overflow_add-new g c = omega (arith, inserting_few c.loop-code.invariant.1)

pub loop-code-preserved : goal.loop-code-preserved
loop-code-preserved g c =
    let l = c.loop-code in
    let small = literal_small c.args.codes.now c.requires l.code-index (omega arith) in
    let one = literal_next c.args.codes.now l.invariant.1 (omega arith) (inserts_told _ _ _ c.add.ensures.set small c.add.ensures.new) in
    let n : l.new + 0 ≡ l.new = omega arith in (
      omega arith,
      elim c.if-add.branch [
        | then-add w ↦ rw w.new-is (rw w.if-add.true at one)
        | else-add w ↦ rw w.new-is (rw (w.if-add.false, n) at one)
      ],
    )

pub returns : goal.returns
returns g c = let l = c.loop-code in inserting_last l.invariant.1 (λ b. named_none c.args.codes.now l.code-index b (omega arith))
