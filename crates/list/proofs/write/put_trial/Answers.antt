-- `put_trial` meets its contract: a run of four. Assumes nothing.
use Rattle.std.proofs.Common.{[], ◌∷◌, refl}
use Rattle.reader.proofs.Writes.{run_put}
use Rattle.list.proofs.write.put_trial.Goals as goal

pub returns : goal.returns
returns c = let a = c.args in let l = a.line in run_put a.list.now a.at (l.trial ∷ l.condition ∷ l.low ∷ l.high ∷ []) c.copy_from_slice.ensures.after refl c.requires
