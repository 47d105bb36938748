-- `open_accepted` meets its contract: R, E, the bound and the passes are those of the closure, and the run area holds its marks.
use Rattle.semantics.specs.Area.{page_of}
use Rattle.reach.proofs.Counting.{counted_few}
use Rattle.reach.proofs.Marking.{unmarked, closure_marks}
use Rattle.reach.proofs.Writing.{accepted_answer, accepted_run}
use Rattle.reach.proofs.open_accepted.Goals as goal

pub mark_set-requires : goal.mark_set-requires
mark_set-requires c = (c.conditions-n.ensures.few, unmarked)

pub bound_of-requires : goal.bound_of-requires
unfolding page_of
bound_of-requires c =
    let n = c.conditions-n.ensures in
    let f = counted_few _ _ c.find-found.ensures.counted (rw n.value at n.few) in
    (f.0, c.top-top.ensures.grade.1, f.1)

pub returns : goal.returns
unfolding page_of
returns c =
    let a = c.args.page.now in
    let t = c.top-top.ensures.value in
    let n = c.conditions-n.ensures.value in
    let few = rw n at c.conditions-n.ensures.few in
    let f = c.find-found.ensures in
    record {
      answer = accepted_answer a c.args.queries.now c.args.run.now few f.found f.counted (rw t at c.bound_of.ensures);
      left = accepted_run a c.args.queries.now c.args.run.now (closure_marks (page_of a) c.args.queries.now few f.found.set (rw n at c.mark_set.ensures)) c.requires.1
          (rw (t, n) at c.write_run.ensures);
    }
