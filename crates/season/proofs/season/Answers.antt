-- `season::season` meets its contract: each test is a cause of the list, in its order. Assumes nothing.
use mathlib.Core.Path.{sym, ◌∙◌}
use Prim.Native.Nat.{◌≤◌}
use native.Mathlib.Omega.{arith}
use lib.IntN.{nat_abs}
use mir.Syntax.{w32}
use mir.Val.{to_z, of_z}
use Rattle.semantics.specs.Season.{pairs_in}
use Rattle.season.specs.Sums.{sums_of}
use Rattle.season.proofs.Signs.{back}
use Rattle.season.proofs.Answers.{season_80, season_81, season_passes, season_told}
use Rattle.season.proofs.season.Goals as goal

pub returns-then-wrong_length : goal.returns-then-wrong_length
returns-then-wrong_length c = season_80 c.args.pairs.now (sym c.wrong_length.ensures ∙ c.if-wrong_length.true)

pub returns-in-Some : goal.returns-in-Some
returns-in-Some c = season_81 c.args.pairs.now c.in-Some.place (sym c.wrong_length.ensures ∙ c.if-wrong_length.false) c.in-Some.ensures

pub sums_of-sums-requires : goal.sums_of-sums-requires
sums_of-sums-requires c = season_passes c.args.pairs.now (sym c.wrong_length.ensures ∙ c.if-wrong_length.false) c.in_default.ensures

pub returns : goal.returns
returns c =
    let s = c.args.pairs.now in
    let e = sym c.wrong_length.ensures ∙ c.if-wrong_length.false in
    let w = c.sums_of-sums.ensures in
    let m : nat_abs (sums_of (pairs_in s)).change ≤ 200 = rw w.0 at w.1.change_most in
    rw w.0 (season_told s (to_z w32 (of_z w32 (sums_of (pairs_in s)).change)) (season_passes s e c.in_default.ensures) (back (sums_of (pairs_in s)).change (omega arith)))
