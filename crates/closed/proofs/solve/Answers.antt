-- `solve` marks the closure of the queries, makes the rounds, answers, and counts.
use native.Mathlib.Omega.{arith}
use Rattle.index.proofs.Lookup.{area_is}
use Rattle.page.proofs.Head.{head_of}
use Rattle.reach.proofs.Marking.{unmarked}
use Rattle.reach.proofs.Naming.{under_at}
use Rattle.closed.proofs.Answering.{rounds_begin, count_ready, solved_uncounted, solved_counted}
use Rattle.closed.proofs.solve.Goals as goal

pub mark_reached-requires : goal.mark_reached-requires
mark_reached-requires c = rw (area_is c.source.view_is) (c.requires.under, unmarked)

pub alternate-requires : goal.alternate-requires
alternate-requires c =
    let e = area_is c.source.view_is in
    let ok = rw e at c.conditions-n.ensures.sound in
    (rounds_begin _ _ _ _ ok c.requires (rw e at c.mark_reached.ensures) (rw e at c.begin.ensures), (head_of _ ok).few, rw e at c.any_free-free.ensures)

pub write_ends-requires : goal.write_ends-requires
write_ends-requires c =
    let n = rw (area_is c.source.view_is) at c.conditions-n.ensures.value in
    let u = under_at _ _ c.requires.under in
    (λ k l. omega (arith, n, u k l, c.requires.long, c.begin.ensures.same_length, c.alternate.ensures.0.same_length), c.requires.room)

pub returns-then-not-counting : goal.returns-then-not-counting
returns-then-not-counting c =
    let e = area_is c.source.view_is in
    let n = rw e at c.conditions-n.ensures.value in
    rw c.if-not-counting.true
    (solved_uncounted _ _ _ _ (rw e at c.conditions-n.ensures.sound) c.requires (rw e at c.mark_reached.ensures) (rw e at c.begin.ensures) c.alternate.ensures.0 (rw n at c.write_ends.ensures) 0)

pub count_rounds-requires : goal.count_rounds-requires
count_rounds-requires c =
    let e = area_is c.source.view_is in
    let ok = rw e at c.conditions-n.ensures.sound in
    (count_ready _ _ _ _ ok c.requires (rw e at c.mark_reached.ensures) (rw e at c.begin.ensures) c.alternate.ensures.0, omega (arith, c.alternate.ensures.1, head_of _ ok), rw e at c.any_free-free.ensures)

pub returns : goal.returns
returns c =
    let e = area_is c.source.view_is in
    let n = rw e at c.conditions-n.ensures.value in
    solved_counted _ _ _ _ (rw e at c.conditions-n.ensures.sound) c.requires (rw e at c.mark_reached.ensures) (rw e at c.begin.ensures) c.alternate.ensures.0 (rw n at c.write_ends.ensures) _ c.count_rounds.ensures
