-- `insert_queries` meets its contract.
use native.Mathlib.Omega.{arith}
use Rattle.reach.proofs.Inserting.{joining_next, joining_last, joins_one}
use Rattle.reach.proofs.Naming.{under_at, listed_on, listed_none}
use Rattle.reach.proofs.insert_queries.Goals as goal

pub add-requires : goal.add-requires
add-requires g c = under_at 512 c.args.queries.now c.requires c.loop-c.c-index (omega arith)

pub loop-c-preserved : goal.loop-c-preserved
loop-c-preserved g c =
    let l = c.loop-c in
    (omega arith, joining_next l.invariant.1 (joins_one _ _ _ c.add.ensures.set) (λ x. listed_on c.args.queries.now l.c-index x (omega arith)))

pub returns : goal.returns
returns g c = let l = c.loop-c in joining_last l.invariant.1 (λ x. listed_none c.args.queries.now l.c-index x (omega arith))
