-- `literals` reads the literals of a rule, which lie in the area.
use Rattle.page.proofs.LineNumbers.{rule_in}
use Rattle.page.proofs.Page.literals.Goals as goal

pub literals_at-requires : goal.literals_at-requires
literals_at-requires c = (rule_in c.self.inside.numbers.now c.self.invariant (rw (← c.self.view_is) at c.requires)).fits
