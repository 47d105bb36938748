-- `Solved::put_line` meets its contract. Assumes nothing.
use mathlib.Core.Path.{◌≡◌, ap}
use mathlib.Core.List.{[], ◌∷◌}
use Prim.Native.Nat.{◌+◌}
use native.Mathlib.Omega.{arith}
use lib.ListN.{get_or}
use Rattle.fixpoint.specs.Interval.{Interval}
use Rattle.semantics.specs.Output.{answer_fields, printed}
use Rattle.print.proofs.Writing.{puts_as, puts_room}
use Rattle.answers.specs.Printing.{query_at}
use Rattle.answers.proofs.Printing.{put_one}
use Rattle.answers.proofs.solved_page.Solved.put_line.Goals as goal

pub put_answer-requires : goal.put_answer-requires
put_answer-requires c =
    let e = c.entry-line.ensures in
    let k = rw (← e.value.x_is) at (c.requires.1 (omega (arith, e.value.kind_is, c.if-line-ne6.false))) in
    let f = c.ends.ensures in (
      puts_room _ c.put_bytes.ensures (omega (arith, c.requires.2)),
      omega (arith, e.inside),
      omega (arith, ap (λ (p : Interval). p.low) f, k.low),
      omega (arith, ap (λ (p : Interval). p.high) f, k.high),
    )

pub returns : goal.returns
returns c =
    let v = c.args.self.now in
    let e = c.entry-line.ensures in
    let kind : get_or v.page.now (c.args.at + 1) 0 ≡ 6 = omega (arith, e.value.kind_is, c.if-line-ne6.false) in
    let ends = rw e.value.x_is at c.ends.ensures in
    put_one v.page.now v.plain.now v.closed.now c.args.lead.now c.args.at c.args.count c.args.text.now
    (omega (arith, e.value.condition_is, e.inside)) (c.requires.1 kind) kind c.put_bytes.ensures
    (puts_as (ap (λ (p : Interval). printed (answer_fields (query_at v.page.now c.args.at) p ∷ [])) ends) (rw (e.value.x_is, e.value.condition_is) at c.put_answer.ensures))
