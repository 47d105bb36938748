-- `keep_line` meets its contract: the entry goes, or its numbers are copied. Assumes nothing.
use mathlib.Core.Path.{◌≡◌, refl, sym, ◌∙◌, ap}
use Prim.Native.Nat.{ℕ, ◌+◌, ◌-◌, ◌≤◌}
use native.Mathlib.Omega.{arith}
use lib.ListN.{length, take, drop}
use Rattle.semantics.specs.Area.{line_at}
use Rattle.page.specs.Lines.{step_at}
use Rattle.page.proofs.LineNumbers.{line_sound, entry_of}
use Rattle.print.proofs.Writing.{wrote_as}
use Rattle.change.specs.Trial.{lines_in}
use Rattle.change.proofs.Lines.{lines_none, lines_one, puts_as}
use Rattle.change.proofs.Keeping.{gone, stays, entry_code}
use Rattle.change.proofs.keep_line.Goals as goal
use Rattle.change.proofs.keep_line.Goals.{After-span_of}

pub returns-then-line_goes : goal.returns-then-line_goes
returns-then-line_goes c =
    puts_as (sym (gone (lines_in c.args.lines.now) (line_at (drop c.args.at c.args.page.now)) (sym c.line_goes.ensures ∙ c.if-line_goes.true)))
    (record { same = refl; wrote = lines_none c.args.entries.now.area.now c.args.entries.now.end c.args.entries.now.count (omega (arith, c.requires.1)) })

-- the entry lies in the area
whole : (c : After-span_of) → c.args.at + c.span_of.result ≤ length c.page.inside.numbers.now
whole c =
    let e = c.entry-line.ensures.value in
    rw c.page.view_is (rw (c.span_of.ensures, e.kind_is, e.y_is) (entry_of _ c.entry-line.ensures.sound c.requires.0).whole)

pub overflow_add-behind : goal.overflow_add-behind
overflow_add-behind c = omega (arith, whole c, c.page.told)

pub offset_bounds-a-at : goal.offset_bounds-a-at
offset_bounds-a-at c = omega (arith, whole (goal.at.offset_bounds-a-at c).After-span_of, c.page.told)

pub slice_bounds-put-end : goal.slice_bounds-put-end
slice_bounds-put-end c = omega (arith, whole (goal.at.slice_bounds-put-end c).After-span_of)

pub returns : goal.returns
returns c =
    let a = c.args.page.now in
    let at = c.args.at in
    let line = line_at (drop at a) in
    let read = c.entry-line.ensures in
    let put = rw c.page.view_is at c.put.ensures in
    let step : c.span_of.result ≡ step_at a at = rw (c.span_of.ensures, read.value.kind_is, read.value.y_is) in
    let e : at + c.span_of.result - at ≡ step_at a at = omega (arith, step) in
    puts_as (sym (stays (lines_in c.args.lines.now) line (sym c.line_goes.ensures ∙ c.if-line_goes.false)))
    (record {
      same = put.same;
      wrote = lines_one line (wrote_as (ap (λ (m : ℕ). take m (drop at a)) e ∙ entry_code a at (line_sound a read.sound c.requires.0)) put.wrote) put.counted;
    })
