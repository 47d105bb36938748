-- `all_below` meets its contract.
use Rattle.std.proofs.Common.{rules, ◌<◌, ◌≡◌, true}
use Rattle.std.specs.List.{All}
use Rattle.reach.proofs.Naming.{under_all}
use Rattle.reach.proofs.all_below.Goals as goal

pub returns : goal.returns
returns c = under_all c.args.n c.args.queries.now (let h : (c.all.result ≡ true → All (λ x. x < c.args.n) c.args.queries.now) × (All (λ x. x < c.args.n) c.args.queries.now → c.all.result ≡ true) = search rules in h)
