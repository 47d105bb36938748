-- `line_end` meets its contract: no byte before the first byte 10 is one. Assumes nothing.
use mathlib.Core.Path.{◌≡◌}
use mathlib.Core.Logic.{◌≢◌}
use Prim.Native.Nat.{◌-◌}
use native.Mathlib.Omega.{arith}
use lib.ListN.{length, take, drop, length-drop}
use lib.Seq.{take_all}
use borrow.Author.Rules.{rules}
use borrow.Author.Tests.{tests}
use Rattle.std.proofs.lemmas.Iterator.{YieldsList-from_slice, IsFirst-from_position}
use Rattle.reader.proofs.Shows.{line_stops}
use Rattle.reader.proofs.show.line_end.Goals as goal

pub returns : goal.returns
returns c =
    let a = c.args in
    let s = a.bytes.now in
    let rest = take (length s - a.at) (drop a.at s) in
    rw c.unwrap_or.ensures
    (line_stops s a.at c.requires (take_all (length s - a.at) (drop a.at s) (omega (arith, length-drop a.at s))) c.position.result
    (IsFirst-from_position _ _ _ (λ b. b ≡ 10) (λ b. b ≢ 10) c.position.ensures.ran (YieldsList-from_slice rest c.iter.ensures.rest) (λ x q k. search (rules, tests)) (λ x q k. search (rules, tests))))
