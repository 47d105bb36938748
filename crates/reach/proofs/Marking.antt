-- A set of conditions written as marks. Assumes nothing.
use mathlib.Core.Path.{◌≡◌, refl, sym, ◌∙◌, ap}
use mathlib.Core.Bool.{Bool, false, ◌&&◌}
use mathlib.Core.List.{List}
use Prim.Native.Nat.{ℕ, zero, suc, ◌≤◌}
use native.Mathlib.Decide.{dec_le}
use native.Mathlib.Omega.{arith}
use lib.ListN.{replicate, get_or-eq_default}
use borrow.Author.Tests.{lt-ltb, le-ltb}
use Rattle.semantics.specs.Page.{Page}
use Rattle.semantics.specs.Reading.{closure}
use Rattle.semantics.specs.Table.{member}
use Rattle.semantics.proofs.Closure.{closure_length}
use Rattle.bits.specs.Words.{has}
use Rattle.reach.specs.Marks.{Unmarked, ClosureMarks}
use Rattle.reach.specs.Sets.{ClosureSet, MarksBelow}

none_marked : (n c : ℕ) → member (replicate n false) c ≡ false
none_marked zero c = refl
none_marked (suc n) zero = refl
none_marked (suc n) (suc c) = none_marked n c

pub unmarked : Unmarked (replicate 512 false)
unmarked = (refl, none_marked 512)

-- the marks of the set that is the closure are those of the closure
pub closure_marks : (page : Page) (qs : List ℕ) {words : List ℕ} {marks : List Bool} → page.conditions ≤ 512 → ClosureSet page qs words → MarksBelow page.conditions words marks
    → ClosureMarks page qs marks
closure_marks page qs {words} {marks} l h m = record { size = m.size; same = same }
  where
    same : (c : ℕ) → member marks c ≡ member (closure page qs) c
    same c =
        elim (dec_le page.conditions c) [
          | yes k ↦ m.is c ∙ ap (λ (t : Bool). t && has words c) (le-ltb c page.conditions k) ∙ sym (get_or-eq_default (closure page qs) false (omega (arith, closure_length page qs)))
          | no k ↦ m.is c ∙ ap (λ (t : Bool). t && has words c) (lt-ltb c page.conditions (omega arith)) ∙ h.same c (omega arith)
        ]
