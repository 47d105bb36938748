-- `find_line` meets its contract: a turn passes one line, `Seeking`. Assumes nothing.
use Rattle.std.proofs.Common.{◌≡◌, ℕ, ◌+◌, ◌-◌, subst, arith}
use Rattle.reader.proofs.Shows.{Seeking, no_line, seeking_first, seeking_past, seeking_next, seeking_last}
use Rattle.reader.proofs.find_line.Goals as goal

pub returns-then-number-eq0 : goal.returns-then-number-eq0
returns-then-number-eq0 c = no_line c.args.bytes.now c.args.number c.if-number-eq0.true

pub loop-line-init : goal.loop-line-init
loop-line-init c =
    let z = c.args in
    let e : z.number ≡ z.number + 1 - 1 = omega arith in
    subst (λ (k : ℕ). Seeking z.bytes.now z.number 0 k) e (seeking_first z.bytes.now z.number c.if-number-eq0.false)

pub returns-then-bytes-at : goal.returns-then-bytes-at
returns-then-bytes-at c =
    let z = c.args in
    seeking_past z.bytes.now z.number c.loop-line.at (z.number + 1 - c.loop-line.line) c.loop-line.invariant c.if-bytes-at.true

pub loop-line-preserved : goal.loop-line-preserved
loop-line-preserved c =
    let z = c.args in
    let e : z.number + 1 - c.loop-line.line - 1 ≡ z.number + 1 - (c.loop-line.line + 1) = omega arith in
    rw e at (seeking_next z.bytes.now z.number c.loop-line.at (z.number + 1 - c.loop-line.line) c.loop-line.invariant (omega (arith, c.loop-line-test.true)) c.if-bytes-at.false c.next_line-at.ensures)

pub returns : goal.returns
returns c =
    let z = c.args in
    seeking_last z.bytes.now z.number c.loop-line.at (z.number + 1 - c.loop-line.line) c.loop-line.invariant (omega (arith, c.loop-line-test.false)) c.line_end-end.ensures
