-- `note` leaves the next low end of the head, or raises it to the line's and notes the head (`up_here`); at a query it does nothing.
use mathlib.Core.Path.{refl}
use native.Mathlib.Omega.{arith}
use Rattle.semantics.specs.Grade.{rounding}
use Rattle.settle.proofs.Raising.{line_here}
use Rattle.stages.proofs.Notes.{part_grades, noted_query, not_here, up_here}
use Rattle.stages.proofs.note.Goals as goal

pub line_end-low-requires : goal.line_end-low-requires
line_end-low-requires c = let e = c.kind.ensures in (part_grades e.sound c.requires, line_here c.requires.2 (omega (arith, e.value)), unfold rounding in refl)

pub returns-then-scratch-place : goal.returns-then-scratch-place
returns-then-scratch-place c = let e = c.condition-h.ensures in not_here e.sound c.requires e.value c.top.ensures.value c.line_end-low.ensures c.if-scratch-place.true

pub returns-else-scratch-place : goal.returns-else-scratch-place
returns-else-scratch-place c =
    let e = c.condition-h.ensures in
    up_here e.sound c.requires e.value c.top.ensures.value c.line_end-low.ensures c.if-not-marks-t.false c.if-scratch-place.false _ c.insert.ensures.set

pub returns-else-kind-lt6 : goal.returns-else-kind-lt6
returns-else-kind-lt6 c = let e = c.kind.ensures in noted_query _ _ _ _ _ e.sound c.requires.0 c.requires.2 (omega (arith, e.value))
