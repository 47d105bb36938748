-- The lowest waiting condition of a run area, and a drive from its first evaluation on. Assumes nothing.
use mathlib.Core.Path.{◌≡◌, refl, sym, ◌∙◌, ap}
use mathlib.Core.Logic.{◌≢◌}
use mathlib.Core.Bool.{Bool, true, false}
use mathlib.Core.List.{List}
use mathlib.Core.Option.{Option, none, some}
use Prim.Native.Nat.{ℕ, zero, suc, ◌+◌, ◌≤◌, ◌<◌}
use native.Mathlib.Nat.{add-zero, zero-add}
use native.Mathlib.Omega.{arith}
use lib.Dec.{eqb}
use borrow.Author.Tests.{eq-eqb, ne_eqb}
use Rattle.semantics.specs.Page.{Page}
use Rattle.semantics.specs.RunArea.{mark_at, worklist_of}
use Rattle.semantics.specs.Table.{table_from}
use Rattle.semantics.specs.Worklist.{Worklist, evaluated, holder, lowest_from, lowest, last_of, one_more, drive_from, driven}

-- the first of n numbers from k on for which p holds
module _ (p : ℕ → Bool) where
  lowest_at : (n k i : ℕ) → i < n → p (k + i) ≡ true → ((j : ℕ) → j < i → p (k + j) ≡ false) → lowest_from k (table_from n k p) ≡ some (k + i)
  unfolding lowest_from table_from
  lowest_at zero k i l e h = absurd (omega arith)
  lowest_at (suc n) k zero l e h = rw (ap p (sym (add-zero k)) ∙ e) (ap some (sym (add-zero k)))
  lowest_at (suc n) k (suc i) l e h =
      let z : k + 0 ≡ k = omega arith in
      let s : suc k + i ≡ k + suc i = omega arith in
      rw (ap p (sym z) ∙ h 0 (omega arith))
      (lowest_at n (suc k) i (omega arith) (ap p s ∙ e) (λ j m. ap p (omega arith) ∙ h (suc j) (omega arith)) ∙ ap some s)

  lowest_nowhere : (n k : ℕ) → ((j : ℕ) → j < n → p (k + j) ≡ false) → lowest_from k (table_from n k p) ≡ none
  unfolding lowest_from table_from
  lowest_nowhere zero k h = refl
  lowest_nowhere (suc n) k h =
      let z : k + 0 ≡ k = omega arith in
      rw (ap p (sym z) ∙ h 0 (omega arith)) (lowest_nowhere n (suc k) (λ j m. ap p (omega arith) ∙ h (suc j) (omega arith)))

-- of the state that a run area holds
module _ (page : Page) (r : List ℕ) where
  abbrev waits : ℕ → Bool
  waits c = eqb (mark_at r c) 2

  waits_not : (c : ℕ) → mark_at r c ≢ 2 → waits (0 + c) ≡ false
  waits_not c h = ap waits (zero-add c) ∙ ne_eqb (mark_at r c) 2 h

  pub lowest_some_of : (c : ℕ) → c < page.conditions → mark_at r c ≡ 2 → ((k : ℕ) → k < c → mark_at r k ≢ 2) → lowest (worklist_of page r) ≡ some c
  unfolding worklist_of
  lowest_some_of c l e h =
      lowest_at waits page.conditions 0 c l (ap waits (zero-add c) ∙ eq-eqb (mark_at r c) 2 e) (λ k m. waits_not k (h k m)) ∙ ap some (zero-add c)

  pub lowest_none_of : ((k : ℕ) → k < page.conditions → mark_at r k ≢ 2) → lowest (worklist_of page r) ≡ none
  unfolding worklist_of
  lowest_none_of h = lowest_nowhere waits page.conditions 0 (λ k m. waits_not k (h k m))

-- a drive
module _ (page : Page) (m : List Bool) (b : Worklist) where
  pub driven_none : (k : ℕ) → lowest b ≡ none → driven page m k b ≡ record { taken = 0; line = 0; state = b }
  unfolding drive_from
  driven_none zero e = refl
  driven_none (suc k) e = rw e

  pub driven_spent : (k : ℕ) → k ≤ 0 → driven page m k b ≡ record { taken = 0; line = 0; state = b }
  unfolding drive_from
  driven_spent zero l = refl
  driven_spent (suc k) l = absurd (omega arith)

  pub driven_next : (k A : ℕ) → lowest b ≡ some A → driven page m (suc k) b ≡ one_more (holder page b A) (driven page m k (evaluated page m b A))
  unfolding drive_from
  driven_next k A e = rw e

  -- a drive without an evaluation tells 0
  driven_line_from : (k : ℕ) (o : Option ℕ) → (drive_from page m k o b).line ≡ last_of (drive_from page m k o b).taken 0 (drive_from page m k o b).line
  unfolding drive_from
  driven_line_from zero o = refl
  driven_line_from (suc k) none = refl
  driven_line_from (suc k) (some A) = refl

  pub driven_line : (k : ℕ) → (driven page m k b).line ≡ last_of (driven page m k b).taken 0 (driven page m k b).line
  driven_line k = driven_line_from k (lowest b)
