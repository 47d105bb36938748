-- `run::value` meets its contract. Assumes nothing.
use native.Mathlib.Omega.{arith}
use Rattle.worklist.proofs.Evaluation.{long_of}
use Rattle.run.proofs.Answering.{value_answers, status_of}
use Rattle.run.proofs.value.Goals as goal

pub lowest_waiting-requires : goal.lowest_waiting-requires
lowest_waiting-requires c = let i = c.in_ok-page.ensures in omega (arith, rw i.0 at c.conditions.ensures.value, long_of c.args.page.now c.args.run.now i.2.run_sound)

pub returns : goal.returns
returns c =
    let i = c.in_ok-page.ensures in
    let g = i.2 in
    rw i.1
    (value_answers _ _ g.page_sound g.run_sound c.args.condition g.inside g.reached (status_of _ _ _ _ c.is_none.ensures (rw (c.conditions.ensures.value, i.0) at c.lowest_waiting.ensures)))
