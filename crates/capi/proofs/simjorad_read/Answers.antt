-- `capi::simjorad_read` meets its contract: its numbers are those of the answer, and small. Assumes nothing.
use Rattle.std.proofs.Common.{ap, ◌∙◌, arith}
use mir.Facts.{to_z_pos}
use mir.Syntax.{w32}
use Rattle.semantics.proofs.ReadProper.{read_good, read_small}
use Rattle.capi.specs.Codes.{read_code}
use Rattle.capi.proofs.simjorad_read.Goals as goal

pub overflow_cast-line : goal.overflow_cast-line
overflow_cast-line c = omega (arith, (read_small c.args.text.now c.args.area.now c.in-Err.ensures.answer).line_most)

pub overflow_cast-place : goal.overflow_cast-place
overflow_cast-place c = omega (arith, (read_small c.args.text.now c.args.area.now c.in-Err.ensures.answer).place_most)

pub overflow_cast-result : goal.overflow_cast-result
overflow_cast-result c = record { sfits = omega (arith, (read_good c.args.text.now c.args.area.now c.in-Ok.ensures.answer).short) }

pub returns-in-Ok-clause-code : goal.returns-in-Ok-clause-code
returns-in-Ok-clause-code c =
    let e = c.in-Ok.ensures.answer in
    to_z_pos w32 {n = c.in-Ok.used} (omega (arith, (read_good c.args.text.now c.args.area.now e).short)) ∙ ap read_code e
