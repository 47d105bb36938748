-- `followers::follow_line` meets its contract. Assumes nothing.
use mathlib.Core.Path.{sym, ◌∙◌}
use mathlib.Core.Bool.{true≢false}
use Rattle.followers.specs.Rows.{stays, enters}
use Rattle.followers.proofs.follow_line.Goals.{then-contains-via-then-contains, then-contains-via-else-contains+then-not-line_meets}
use Rattle.followers.proofs.follow_line.Goals as goal

pub returns-then-contains : goal.returns-then-contains
returns-then-contains c =
    elim c.then-contains.branch [
      | then-contains-via-then-contains w ↦ stays (λ q. sym (rw c.entry-head.ensures.value.condition_is at c.contains.ensures) ∙ w.if-contains.true)
      | then-contains-via-else-contains+then-not-line_meets w ↦ stays (λ q. absurd (true≢false (sym q ∙ sym w.line_meets.ensures ∙ w.if-not-line_meets.true)))
    ]

pub returns : goal.returns
returns c =
    let h = c.entry-head.ensures.value.condition_is in
    enters (sym (rw h at c.contains.ensures) ∙ c.if-contains.false) (sym c.line_meets.ensures ∙ c.if-not-line_meets.false) (rw h at c.insert.ensures.set) (rw h at c.insert-2.ensures.set)
