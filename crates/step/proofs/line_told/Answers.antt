-- `step::line_told` meets its contract. Assumes nothing.
use mathlib.Core.Path.{sym, subst}
use mathlib.Core.List.{List}
use Prim.Native.Nat.{ℕ}
use native.Mathlib.Omega.{arith}
use Rattle.semantics.specs.Area.{top_of, conditions_of}
use Rattle.ends.specs.Mirror.{Mirrored}
use Rattle.worklist.proofs.Evaluation.{long_of}
use Rattle.step.proofs.Telling.{restored_grades, told_before}
use Rattle.step.proofs.line_told.Goals as goal

pub bounds-run-c : goal.bounds-run-c
bounds-run-c c = omega (arith, long_of c.args.page.now c.args.run.now c.requires.0, c.requires.3)

pub first_line-requires : goal.first_line-requires
first_line-requires c =
    let t = c.top-top.ensures in
    let page = c.args.page.now in
    subst (λ (v : List ℕ). Mirrored (top_of page) (conditions_of page) v) (sym (rw t.value at c.store.ensures))
    (restored_grades _ _ _ _ _ _ c.requires.3 c.requires.1 c.requires.2 t.sound c.requires.0 c.requires.4 c.requires.5)

pub returns : goal.returns
returns c =
    told_before _ _ _ _ _ _ c.requires.3 c.requires.1 c.requires.2 (rw (rw c.top-top.ensures.value at c.store.ensures) at c.first_line.ensures)
