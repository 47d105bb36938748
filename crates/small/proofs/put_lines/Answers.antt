-- `small::put_lines` meets its contract: no line, one, or two. Assumes nothing.
use native.Mathlib.Omega.{arith}
use Prim.Native.Nat.{◌-◌, ◌/◌}
use Rattle.print.proofs.Writing.{puts_then, puts_room, puts_as}
use Rattle.small.specs.Numbers.{kinds}
use Rattle.small.proofs.Texts.{pair_ranks, line_short, lines_two}
use Rattle.small.proofs.put_lines.Goals as goal

pub put_line-requires-3 : goal.put_line-requires-3
put_line-requires-3 c =
    let w = pair_ranks c.args.n c.args.k c.requires.1 c.requires.2 (omega arith) c.requires.3 in
    let l = line_short c.args.n ((c.args.k - 1 - kinds c.args.n) / kinds c.args.n) c.requires.1 c.requires.2 w.0 in
    (puts_room 11 c.put_line-2.ensures (omega (arith, l)), c.requires.1, c.requires.2, w.1)

pub returns : goal.returns
returns c =
    puts_as (lines_two c.args.n c.args.k (omega arith) (omega arith)) (puts_then c.put_line-2.ensures c.put_line-3.ensures)
