-- `trial::begin` meets its contract: the first line is written, or the refused line (`Beginning`). Assumes nothing.
use Rattle.std.proofs.Common.{arith}
use Rattle.page.proofs.Head.{head_of}
use Rattle.page.proofs.Solvable.{sound_solvable}
use Rattle.trial.proofs.Beginning.{refused_output}
use Rattle.trial.proofs.begin.Goals as goal

pub put_top-requires : goal.put_top-requires
put_top-requires c =
    let r = c.in-Ok.ensures.read in
    (omega (arith, c.requires.2), omega (arith, (head_of c.read.new.page (sound_solvable c.read.new.page r.page_sound)).top_most))

pub returns-in-Err-clause-begun : goal.returns-in-Err-clause-begun
returns-in-Err-clause-begun c = refused_output c.in-Err.ensures.read c.put_refusal.ensures
