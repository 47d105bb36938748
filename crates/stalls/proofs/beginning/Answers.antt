-- `stalls::beginning` meets its contract. Assumes nothing.
use mathlib.Core.Path.{sym, ap, ◌∙◌}
use Prim.Native.Nat.{ℕ, ◌*◌}
use Rattle.semantics.specs.Area.{page_of}
use Rattle.semantics.specs.Stalls.{beginning}
use Rattle.stalls.specs.Answers.{stall_of}
use Rattle.stalls.specs.declared.Stall.{Stall}
use Rattle.stalls.proofs.beginning.Goals as goal

pub returns-in-Second : goal.returns-in-Second
unfolding page_of
returns-in-Second c = ap (λ (n : ℕ). 3 * n) c.conditions.ensures.value ∙ ap (λ (x : Stall). beginning (page_of c.args.page.now) (stall_of x)) (sym c.in-Second.is)
