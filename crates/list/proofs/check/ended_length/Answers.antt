-- `ended_length` meets its contract: the byte at the place is 10, and no byte behind it is. Assumes nothing.
use mathlib.Core.Path.{◌≡◌}
use Prim.Native.Nat.{◌+◌, ◌<◌}
use lib.ListN.{length, get_or}
use borrow.Author.Rules.{rules}
use Rattle.std.specs.Prelude.{MatchOption}
use Rattle.list.proofs.Parts.{NoneFrom, part_found}
use Rattle.list.proofs.check.ended_length.Goals as goal

pub returns : goal.returns
returns c =
    let s = c.args.bytes.now in
    let found : MatchOption c.rposition.result (NoneFrom s 0) (λ at. (at < length s) × (get_or s at 0 ≡ 10) × NoneFrom s (at + 1)) = search rules in
    let end : MatchOption c.rposition.result (c.map_or.result ≡ 0) (λ at. c.map_or.result ≡ at + 1) = search rules in
    part_found s c.rposition.result c.map_or.result found end
