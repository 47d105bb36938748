-- `condition` reads the first number of the entry of a line, which lies in the area and is a condition of the page.
use Rattle.page.proofs.Head.{head_of}
use Rattle.page.proofs.LineNumbers.{entry_of, head_in}
use Rattle.page.proofs.Page.condition.Goals as goal

pub condition_at-requires : goal.condition_at-requires
condition_at-requires c = entry_of c.self.inside.numbers.now c.self.invariant (rw (← c.self.view_is) at c.requires)

pub returns-clause-inside : goal.returns-clause-inside
returns-clause-inside c =
    let l = rw (← c.self.view_is) at c.requires in
    rw (← c.self.view_is) (rw c.condition_at.ensures (head_in c.self.inside.numbers.now c.self.invariant l), (head_of c.self.inside.numbers.now c.self.invariant).few)
