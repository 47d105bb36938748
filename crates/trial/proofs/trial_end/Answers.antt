-- `trial::trial_end` meets its contract: the lines before the first with another number. Assumes nothing.
use mathlib.Core.Path.{◌≡◌}
use mathlib.Core.Logic.{◌≢◌}
use lib.ListN.{get_or}
use borrow.Author.Rules.{rules}
use borrow.Author.Tests.{tests}
use Rattle.std.proofs.lemmas.Iterator.{IsFirst-from_position}
use Rattle.trial.proofs.Ending.{gives_numbers, trial_ends}
use Rattle.trial.proofs.trial_end.Goals as goal

pub returns : goal.returns
returns c =
    let list = c.args.list.now in
    let e = c.chunks_exact.ensures in
    rw c.unwrap_or.ensures
    (trial_ends list c.requires _
    (IsFirst-from_position _ _ _ (λ n. n ≢ get_or list 0 0) (λ n. n ≡ get_or list 0 0) c.position.ensures.ran (gives_numbers list e.size e.rest)
    (λ x q k. search (rules, tests)) (λ x q k. search (rules, tests))))
