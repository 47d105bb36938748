-- `parse_fact` meets its contract, by the laws of `Forms`. Assumes nothing.
use Rattle.fields.proofs.Tokens.{number_last, no_number_last, newline_class}
use Rattle.lines.proofs.Forms.{no_high, a_fact}
use Rattle.lines.proofs.parse_fact.Goals as goal

pub number_before-requires : goal.number_before-requires
number_before-requires c = (c.in_ok-pair.ensures.place, newline_class)

pub returns-in_err-high : goal.returns-in_err-high
returns-in_err-high c _ =
    let a = c.args in rw c.from_residual-in_err-high.ensures (no_high a.bytes.now a.at c.requires.1 c.in_ok-pair.ensures (no_number_last a.bytes.now c.in_ok-pair.pair.next c.in_err-high.ensures))

pub returns : goal.returns
returns c _ = let a = c.args in a_fact a.bytes.now a.at c.requires.1 c.in_ok-pair.ensures (number_last a.bytes.now c.in_ok-pair.pair.next c.in_ok-high.ensures)
