-- `followers::line_meets` meets its contract, by the kind of the line. Assumes nothing.
use mathlib.Core.Path.{sym, ◌∙◌}
use native.Mathlib.Omega.{arith}
use Rattle.page.proofs.Naming.{line_rule, line_fact, line_over}
use Rattle.followers.proofs.Meeting.{meets_as, meets_none}
use Rattle.followers.proofs.line_meets.Goals as goal

pub returns-in-1-to-5 : goal.returns-in-1-to-5
returns-in-1-to-5 c =
    let z = c.args in
    let k = c.entry.ensures.value.kind_is in
    c.literals_meet.ensures ∙ meets_as z.set.now.words _ _ (λ x. sym (line_rule z.page.now z.at x (omega arith) (omega arith)))

pub returns-in_default : goal.returns-in_default
returns-in_default c =
    let z = c.args in
    let k = c.entry.ensures.value.kind_is in
    sym (meets_none z.set.now.words _ (λ x l p. line_fact z.page.now z.at x (omega arith)))

pub returns-in_default-2 : goal.returns-in_default-2
returns-in_default-2 c =
    let z = c.args in
    let k = c.entry.ensures.value.kind_is in
    sym (meets_none z.set.now.words _ (λ x l p. line_over z.page.now z.at x (omega arith)))
