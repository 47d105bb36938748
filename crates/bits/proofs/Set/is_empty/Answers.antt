-- `bits::Set::is_empty` meets its contract. Assumes nothing.
use Rattle.std.proofs.Common.{refl, arith, eq-eqb, eqb-true}
use Rattle.bits.proofs.Sets.{nobody, word_nobody, each_none}
use Rattle.bits.proofs.Set.is_empty.Goals as goal

pub returns : goal.returns
returns c =
    let words = c.args.self.now.words in (
      λ t. nobody words (each_none words (eqb-true _ 0 t)),
      λ n.
          let z0 = word_nobody words 0 (omega arith) (omega arith) n in
          let z1 = word_nobody words 1 (omega arith) (omega arith) n in
          let z2 = word_nobody words 2 (omega arith) (omega arith) n in
          let z3 = word_nobody words 3 (omega arith) (omega arith) n in
          let z4 = word_nobody words 4 (omega arith) (omega arith) n in
          let z5 = word_nobody words 5 (omega arith) (omega arith) n in
          let z6 = word_nobody words 6 (omega arith) (omega arith) n in
          let z7 = word_nobody words 7 (omega arith) (omega arith) n in
          eq-eqb _ 0 (rw (z0, z1, z2, z3, z4, z5, z6, z7) refl),
    )
