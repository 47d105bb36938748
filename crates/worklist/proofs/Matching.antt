-- A set of conditions that matches the marks of a run area: what it says of who waits, and which changes keep the match. Assumes nothing.
use mathlib.Core.Path.{◌≡◌, refl, sym, ◌∙◌, ap}
use mathlib.Core.Logic.{◌≢◌, ◌⊎◌, inl, inr}
use mathlib.Core.Bool.{Bool, true, false, ◌&&◌, and-true, and-false, or-true, or-false, true≢false}
use mathlib.Core.List.{List}
use Prim.Native.Nat.{ℕ, ◌+◌, ◌*◌, ◌≤◌, ◌<◌}
use native.Mathlib.Decide.{ℕ_discrete}
use native.Mathlib.Omega.{arith}
use lib.Dec.{eqb, ltb}
use lib.ListN.{length, set}
use borrow.Author.Tests.{eq-eqb, ne_eqb, lt-ltb, ltb-true, ltb-false, eqb-true}
use Rattle.semantics.specs.RunArea.{mark_at}
use Rattle.semantics.proofs.Soundness.{both_true}
use Rattle.std.specs.Prelude.{None, Some}
use Rattle.bits.specs.Words.{has, Inserted, Removed}
use Rattle.bits.specs.Sets.{LowestIn}
use Rattle.worklist.specs.Cells.{LowestAt, Lowest}
use Rattle.worklist.specs.Waiting.{WordsMatch, StillMatches}
use Rattle.worklist.proofs.Stores.{mark_same, mark_other}

-- a test that only matters below n
below_cong : (k n : ℕ) {s t : Bool} → (k < n → s ≡ t) → (ltb k n && s) ≡ (ltb k n && t)
below_cong k n {s} {t} h = go (ltb k n) refl
  where
    go : (b : Bool) → ltb k n ≡ b → (b && s) ≡ (b && t)
    go true e = h (ltb-true k n e)
    go false e = refl

pub lt_or_le : (a b : ℕ) → (a < b) ⊎ (b ≤ a)
lt_or_le a b = go (ltb a b) refl
  where
    go : (t : Bool) → ltb a b ≡ t → (a < b) ⊎ (b ≤ a)
    go true e = inl (ltb-true a b e)
    go false e = inr (ltb-false a b e)

-- what a set says of the marks that it matches
module _ {n : ℕ} {run words : List ℕ} (w : WordsMatch n run words) where
  pub in_set : {k : ℕ} → k < 512 → has words k ≡ true → (k < n) × (mark_at run k ≡ 2)
  in_set {k} l e =
      let b = both_true (ltb k n) (eqb (mark_at run k) 2) (sym (w.bits k l) ∙ e) in
      (ltb-true k n b.0, eqb-true (mark_at run k) 2 b.1)

  pub not_in_set : {k : ℕ} → k < 512 → k < n → has words k ≡ false → mark_at run k ≢ 2
  not_in_set {k} l m e q = true≢false (sym (w.bits k l ∙ rw (lt-ltb k n m, eq-eqb (mark_at run k) 2 q)) ∙ e)

  -- the lowest of the set is the lowest that waits
  pub lowest_waits : {r : ℕ} → LowestIn words (Some r) → LowestAt n run r
  lowest_waits {r} s =
      let l = s.0.within in
      let b = in_set l s.0.found in
      record { within = b.0; found = b.1; below = λ k m. not_in_set (omega arith) (omega (arith, b.0)) (s.1 k m) }

  -- and if there is none, none waits
  pub none_waits : LowestIn words None → n ≤ 512 → Lowest n run None
  none_waits s f = λ k m. not_in_set (omega arith) m (s k (omega arith))

  -- c waits no longer
  pub match_removed : {c : ℕ} {run' words' : List ℕ} → Removed c words words' → mark_at run' c ≢ 2 → ((k : ℕ) → k < n → k ≢ c → mark_at run' k ≡ mark_at run k)
      → WordsMatch n run' words'
  match_removed {c} {run'} r z h =
      record {
        bits = λ k l. r.1 k l ∙ elim (ℕ_discrete k c) [
          | yes e ↦ rw (eq-eqb k c e, and-false) (rw (e, ne_eqb (mark_at run' c) 2 z) (sym (and-false (ltb c n))))
          | no e ↦ rw (ne_eqb k c e, and-true) (w.bits k l ∙ below_cong k n (λ m. ap (λ (x : ℕ). eqb x 2) (sym (h k m e))))
        ];
      }

  -- c waits too
  pub match_inserted : {c : ℕ} {run' words' : List ℕ} → Inserted c words words' → c < n → mark_at run' c ≡ 2 → ((k : ℕ) → k < n → k ≢ c → mark_at run' k ≡ mark_at run k)
      → WordsMatch n run' words'
  match_inserted {c} {run'} r m z h =
      record {
        bits = λ k l. r.1 k l ∙ elim (ℕ_discrete k c) [
          | yes e ↦ rw (eq-eqb k c e, or-true) (rw (e, eq-eqb (mark_at run' c) 2 z, lt-ltb c n m))
          | no e ↦ rw (ne_eqb k c e, or-false) (w.bits k l ∙ below_cong k n (λ m. ap (λ (x : ℕ). eqb x 2) (sym (h k m e))))
        ];
      }

-- a match that is kept: nothing changes, one more condition waits, and one change after another
pub still_same : (n : ℕ) (run words : List ℕ) → StillMatches n run words run words
still_same n run words = record { kept = λ w. w }

pub still_inserted : {n d : ℕ} (run : List ℕ) {words words' : List ℕ} → 3 * d + 3 ≤ length run → d < n → Inserted d words words' → StillMatches n run words (set run (3 * d + 2) 2) words'
still_inserted {n} {d} run long l r =
    record { kept = λ w. match_inserted w r l (mark_same run d 2 long) (λ k b q. mark_other run d 2 k q) }

pub still_then : {n : ℕ} {r₀ w₀ r₁ w₁ r₂ w₂ : List ℕ} → StillMatches n r₀ w₀ r₁ w₁ → StillMatches n r₁ w₁ r₂ w₂ → StillMatches n r₀ w₀ r₂ w₂
still_then p q = record { kept = λ w. q.kept (p.kept w) }
