-- `raise` leaves the scratch alone, or raises the end of the head to the value of the line (`raised_here`).
use native.Mathlib.Omega.{arith}
use Rattle.settle.proofs.Raising.{line_here, part_grades, raised_query, kept_here, raised_here}
use Rattle.settle.proofs.Figures.raise.Goals as goal

pub line_end-v-requires : goal.line_end-v-requires
line_end-v-requires c =
    let e = c.kind.ensures in
    (part_grades e.sound c.requires, line_here c.requires.2 (omega (arith, e.value)), c.requires.1.adds)

pub returns-then-v-scratch-clause-raised : goal.returns-then-v-scratch-clause-raised
returns-then-v-scratch-clause-raised c = let e = c.condition-h.ensures in kept_here e.sound c.requires e.value c.line_end-v.ensures c.if-v-scratch.true

pub returns-else-v-scratch-clause-raised : goal.returns-else-v-scratch-clause-raised
returns-else-v-scratch-clause-raised c =
    let e = c.condition-h.ensures in raised_here e.sound c.requires e.value c.line_end-v.ensures c.if-not-marks-h.false c.if-v-scratch.false

pub returns-in_default-clause-raised : goal.returns-in_default-clause-raised
returns-in_default-clause-raised c = let e = c.kind.ensures in raised_query _ _ _ _ _ e.sound c.requires.0 c.requires.2 (omega (arith, e.value))
