-- `Solved::put_lines` meets its contract: a turn passes one line (`Printing`). Assumes nothing.
use mathlib.Core.Path.{◌≡◌}
use Rattle.answers.proofs.Printing.{Printing}
use Rattle.answers.proofs.solved_page.Solved.put_lines.Given as goal

abbrev pub invariant-loop-at : goal.invariant-loop-at
invariant-loop-at l = (l.at-iterator.numbers.now ≡ l.self.page.now) × Printing l.self.page.now l.lead l.initial.text l.at-iterator.at l.at-iterator.passed l.text l.count
