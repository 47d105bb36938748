-- `change` meets its contract: the head, the lines that stay, the facts, and then two numbers of the head. Assumes nothing.
use mathlib.Core.Path.{refl, sym, ◌∙◌, ap}
use Prim.Native.Nat.{◌+◌, ◌≤◌}
use native.Mathlib.Omega.{arith}
use borrow.Author.Rules.{rules}
use lib.ListN.{length}
use lib.Seq.{length-take-le}
use Rattle.change.specs.Trial.{lines_in}
use Rattle.change.proofs.Lines.{wrote_length, lines_length_lem}
use Rattle.change.proofs.Keeping.{bounds}
use Rattle.change.proofs.Changed.{changed}
use Rattle.change.proofs.change.Goals as goal
use Rattle.change.proofs.change.Goals.{After-page}

-- the numbers before the lines lie in the area
room : (c : After-page) → 4 + c.conditions-n.result ≤ length c.page.inside.numbers.now
room c = let b = bounds _ c.requires.0 in omega (arith, b.first, b.inside, c.conditions-n.ensures.value, ap length c.page.view_is)

pub slice_bounds-put_all-end : goal.slice_bounds-put_all-end
slice_bounds-put_all-end c = sym (length-take-le _ _ (room (goal.at.slice_bounds-put_all-end c).After-page))

pub put_all-end-requires : goal.put_all-end-requires
put_all-end-requires c =
    let b = bounds _ c.requires.0 in
    let h = length-take-le _ _ (room (goal.at.put_all-end-requires c).After-page) in
    omega (arith, b.few, c.requires.1, c.conditions-n.ensures.value, h)

pub keep_lines-requires : goal.keep_lines-requires
keep_lines-requires c =
    let b = bounds _ c.requires.0 in
    let h = length-take-le _ _ (room (goal.at.keep_lines-requires c).After-page) in (
      c.requires.0,
      omega (arith, b.most, c.requires.1, wrote_length c.put_all-end.ensures),
      omega (arith, c.put_all-end.ensures.behind, c.conditions-n.ensures.value, h),
      refl,
    )

pub put_facts-requires : goal.put_facts-requires
put_facts-requires c =
    let b = bounds _ c.requires.0 in
    let k = c.keep_lines.ensures in
    record {
      room = omega (arith, b.few, b.most, c.requires.1, k.short, lines_length_lem k.puts.wrote, wrote_length c.put_all-end.ensures);
      counts = omega (arith, b.few, k.few);
    }

pub overflow_cast-area : goal.overflow_cast-area
overflow_cast-area c =
    let b = bounds _ c.requires.0 in
    omega (arith, b.few, b.most, c.keep_lines.ensures.short, c.put_facts.ensures.short)

pub returns : goal.returns
returns c =
    let k = c.keep_lines.ensures.puts in
    let f = c.put_facts.ensures.puts in
    let n = c.conditions-n.ensures.value in
    let w = rw c.page.view_is at c.put_all-end.ensures in
    let e = sym (f.same ∙ k.same) in
    changed c.args.page.now (lines_in c.args.lines.now) c.requires.0 {m = 4 + c.conditions-n.result} (omega (arith, n)) w k.wrote (rw n at f.wrote) _ (search rules)
