-- What a store to a cell of a run area leaves in the other numbers. Assumes nothing.
use mathlib.Core.Path.{◌≡◌, refl, sym}
use mathlib.Core.Logic.{◌≢◌}
use mathlib.Core.Bool.{Bool, true, false, cond, ◌&&◌}
use mathlib.Core.List.{List}
use Prim.Native.Nat.{ℕ, ◌+◌, ◌*◌, ◌≤◌, ◌<◌}
use native.Mathlib.Decide.{ℕ_discrete}
use native.Mathlib.Omega.{arith}
use lib.Dec.{eqb, leb}
use lib.ListN.{length, set, drop, length-set}
use lib.Seq.{get_or-set_same, get_or-set_other, drop-set-lt}
use borrow.Author.Tests.{eq-eqb, ne_eqb}
use Rattle.fixpoint.proofs.KnowledgeOrder.{pair_eq}
use Rattle.semantics.specs.RunArea.{interval_at, mark_at}
use Rattle.worklist.specs.Marks.{marked}

-- a store to a mark
module _ (run : List ℕ) (d v : ℕ) where
  pub mark_same : 3 * d + 3 ≤ length run → mark_at (set run (3 * d + 2) v) d ≡ v
  mark_same l = get_or-set_same run (3 * d + 2) v 0 (omega arith)

  pub mark_other : (h : ℕ) → h ≢ d → mark_at (set run (3 * d + 2) v) h ≡ mark_at run h
  mark_other h n = get_or-set_other run (3 * d + 2) (3 * h + 2) v 0 (λ e. n (omega arith))

  pub mark_apart : (h : ℕ) → interval_at (set run (3 * d + 2) v) h ≡ interval_at run h
  mark_apart h =
      pair_eq (get_or-set_other run (3 * d + 2) (3 * h) v 0 (λ e. omega arith)) (get_or-set_other run (3 * d + 2) (3 * h + 1) v 0 (λ e. omega arith))

-- a condition that waits if it is reached, where a test holds
module _ (t : Bool) (d : ℕ) (run : List ℕ) where
  abbrev after : List ℕ
  after = cond t (marked d run) run

  by_cases : (P : List ℕ → Type 0) → P run → P (set run (3 * d + 2) 2) → P after
  by_cases P kept stored = go t (leb 1 (mark_at run d))
    where
      go : (t s : Bool) → P (cond t (cond s (set run (3 * d + 2) 2) run) run)
      go true true = stored
      go true false = kept
      go false s = kept

  pub marked_length : length after ≡ length run
  marked_length = by_cases (λ r. length r ≡ length run) refl (length-set run (3 * d + 2) 2)

  pub marked_apart : (h : ℕ) → interval_at after h ≡ interval_at run h
  marked_apart h = by_cases (λ r. interval_at r h ≡ interval_at run h) refl (mark_apart run d 2 h)

  pub marked_beyond : (n : ℕ) → d < n → drop (3 * n) after ≡ drop (3 * n) run
  marked_beyond n l = by_cases (λ r. drop (3 * n) r ≡ drop (3 * n) run) refl (drop-set-lt (3 * n) run (3 * d + 2) 2 (omega arith))

  pub marked_mark : 3 * d + 3 ≤ length run → (h : ℕ) → mark_at after h ≡ cond ((eqb d h && t) && leb 1 (mark_at run h)) 2 (mark_at run h)
  marked_mark l h =
      elim (ℕ_discrete d h) [
        | yes e ↦ rw (sym e) (rw (eq-eqb d d refl) (same t (leb 1 (mark_at run d)) refl))
        | no e ↦ rw (ne_eqb d h e) (by_cases (λ r. mark_at r h ≡ mark_at run h) refl (mark_other run d 2 h (λ q. e (sym q))))
      ]
    where
      same : (t s : Bool) → leb 1 (mark_at run d) ≡ s → mark_at (cond t (cond s (set run (3 * d + 2) 2) run) run) d ≡ cond (t && s) 2 (mark_at run d)
      same true true e = mark_same run d 2 l
      same true false e = refl
      same false s e = refl
