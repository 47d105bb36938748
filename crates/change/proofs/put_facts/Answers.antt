-- `put_facts` meets its contract. The loop's invariant: the facts of the conditions passed are written. Assumes nothing.
use native.Mathlib.Omega.{arith}
use Rattle.change.specs.Trial.{lines_in}
use Rattle.change.proofs.Facts.{facts_first, facts_next, facts_done}
use Rattle.change.proofs.put_facts.Goals as goal

pub loop-c-init : goal.loop-c-init
loop-c-init c = facts_first (lines_in c.args.lines.now) c.args.n c.args.entries.now c.requires

pub put_fact-requires : goal.put_fact-requires
put_fact-requires c =
    let p = c.requires in
    let i = c.loop-c.invariant in
    (omega (arith, p.room, i.size, i.short, c.loop-c-test.true), omega (arith, p.counts, i.few, c.loop-c-test.true))

pub loop-c-preserved : goal.loop-c-preserved
loop-c-preserved c = facts_next _ _ _ c.loop-c.invariant c.loop-c-test.true c.put_fact.ensures

pub returns : goal.returns
returns c = facts_done _ _ _ c.loop-c.invariant (omega arith)
