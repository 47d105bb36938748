-- One is taken out of a set. Assumes nothing.
use mathlib.Core.Path.{◌≡◌, refl, sym, ◌∙◌}
use mathlib.Core.Logic.{◌≢◌}
use mathlib.Core.Bool.{Bool, true, false, not, ◌&&◌, and-true, true≢false}
use mathlib.Core.List.{List}
use Prim.Native.Nat.{ℕ, ◌≤◌, ◌<◌}
use native.Mathlib.Omega.{arith}
use lib.Dec.{eqb}
use borrow.Author.Tests.{eq-eqb, ne_eqb}
use Rattle.fixpoint.specs.Sum.{sum, bit}
use Rattle.fixpoint.proofs.Cond.{by_bool}
use Rattle.fixpoint.proofs.Sum.{sum_drop}
use Rattle.bits.specs.Words.{has, Removed}

-- how many are in the set
abbrev pub waiters : List ℕ → ℕ
waiters words = sum 512 (λ c. bit (has words c))

module _ (words words₁ : List ℕ) (c : ℕ) (x : Removed c words words₁) where
  -- whoever is in now was in before; but for c nobody goes
  pub was_in : (d : ℕ) → d < 512 → has words₁ d ≡ true → has words d ≡ true
  was_in d l q = by_bool (has words d) (λ y. y) (λ y. absurd (true≢false (sym q ∙ x.1 d l ∙ rw y)))

  pub else_same : (d : ℕ) → d < 512 → d ≢ c → has words₁ d ≡ has words d
  else_same d l z = x.1 d l ∙ rw (ne_eqb d c z, and-true)

  pub gone : c < 512 → has words₁ c ≡ false
  gone l = x.1 c l ∙ out (has words c) (eqb c c) (eq-eqb c c refl)
    where
      out : (a b : Bool) → b ≡ true → (a && not b) ≡ false
      out true b e = rw e
      out false b e = refl

  pub fewer : c < 512 → has words c ≡ true → waiters words₁ < waiters words
  fewer small waits =
      omega (
        arith,
        sum_drop 512 (λ d. bit (has words₁ d)) (λ d. bit (has words d)) 1 c small (λ d l z. bits d l (was_in d l))
            (rw (gone small, waits) (omega arith)),
      )
    where
      bits : (d : ℕ) → d < 512 → (has words₁ d ≡ true → has words d ≡ true) → bit (has words₁ d) ≤ bit (has words d)
      bits d l h = by_bool (has words₁ d) (λ q. rw (q, h q) (omega arith)) (λ q. rw q (omega arith))
