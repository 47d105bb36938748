-- `next_highs` clears the entries, takes in the lines and finishes.
use mathlib.Core.Path.{refl}
use Prim.Native.Nat.{ℕ, ◌*◌}
use borrow.Author.Rules.{rules}
use Rattle.semantics.specs.Area.{page_of, conditions_of}
use Rattle.semantics.specs.Body.{bodyless}
use Rattle.unknowns.specs.NextHighs.{high_from}
use Rattle.unknowns.proofs.Storing.{places_on}
use Rattle.unknowns.proofs.Closing.{part_grades, next_highs}
use Rattle.unknowns.proofs.next_highs.Goals as goal

pub sweep-requires : goal.sweep-requires
sweep-requires c =
    rw c.conditions-n.ensures.value
    (places_on _ _ c.requires.0 (c.map_sought.ensures (λ d x. 0) (λ p q r z. search rules)).steady, part_grades _ _ c.requires.1 (2 * conditions_of c.args.page.now) refl)

pub returns : goal.returns
returns c =
    let e = c.conditions-n.ensures in
    let high : ℕ → ℕ → ℕ = λ d x. high_from (bodyless (page_of c.args.page.now) d).high x in
    next_highs _ _ c.requires.1 (2 * conditions_of c.args.page.now) refl e.sound (c.map_sought.ensures (λ d x. 0) (λ p q r z. search rules)) (rw e.value at c.sweep.ensures)
    (c.map_sought-2.ensures high (λ p q r z. search rules))
