-- `take_line` stores the larger of the entry and 1 more than the line's high end.
use native.Mathlib.Omega.{arith}
use Rattle.unknowns.proofs.Sweeping.{end_small}
use Rattle.unknowns.proofs.take_line.Goals as goal

pub overflow_add-v : goal.overflow_add-v
overflow_add-v c = omega (arith, end_small _ c.entry-h.ensures.sound c.line_end-v.ensures)

pub overflow_cast-v : goal.overflow_cast-v
overflow_cast-v c = omega (arith, end_small _ c.entry-h.ensures.sound c.line_end-v.ensures)
