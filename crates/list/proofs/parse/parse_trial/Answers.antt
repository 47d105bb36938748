-- `parse_trial` meets its contract, by the laws of `Forms`. Assumes nothing.
use Rattle.fields.proofs.Tokens.{number_then, no_number_then, number_last, no_number_last, comma_class, newline_class}
use Rattle.list.proofs.Forms.{no_low, no_high, number_end, a_trial}
use Rattle.list.proofs.parse.parse_trial.Goals as goal

pub number_before-requires : goal.number_before-requires
number_before-requires c = (c.in_ok-front.ensures.place, comma_class)

pub returns-in_err-low : goal.returns-in_err-low
returns-in_err-low c =
    let a = c.args in
    rw c.from_residual-in_err-low.ensures (no_low a.bytes.now a.at c.in_ok-front.ensures (no_number_then a.bytes.now c.in_ok-front.front.next c.in_err-low.ensures))

pub number_before-requires-2 : goal.number_before-requires-2
number_before-requires-2 c = ((number_then c.args.bytes.now c.in_ok-front.front.next c.in_ok-front.ensures.place c.in_ok-low.ensures).place, newline_class)

pub returns-in_err-high : goal.returns-in_err-high
returns-in_err-high c =
    let a = c.args in
    let f = c.in_ok-front.ensures in
    rw c.from_residual-in_err-high.ensures
    (no_high a.bytes.now a.at f (number_then a.bytes.now c.in_ok-front.front.next f.place c.in_ok-low.ensures) (no_number_last a.bytes.now c.in_ok-low.low.end c.in_err-high.ensures))

pub returns : goal.returns
returns c =
    let a = c.args in
    let f = c.in_ok-front.ensures in
    a_trial a.bytes.now a.at f (number_then a.bytes.now c.in_ok-front.front.next f.place c.in_ok-low.ensures) c.requires (number_last a.bytes.now c.in_ok-low.low.end c.in_ok-high.ensures) (number_end a.bytes.now c.in_ok-low.low.end 10 c.in_ok-high.ensures)
