-- One joins a set of conditions, or is taken out of it. Assumes nothing.
use mathlib.Core.Path.{◌≡◌, refl, sym, ◌∙◌}
use mathlib.Core.Logic.{◌≢◌, ⊎_elim}
use mathlib.Core.Bool.{Bool, true, false, or-true, or-false}
use mathlib.Core.List.{List}
use Prim.Native.Nat.{ℕ, ◌≤◌, ◌<◌}
use native.Mathlib.Omega.{arith}
use lib.Dec.{eqb}
use borrow.Author.Tests.{eq-eqb, ne_eqb, eqb-true}
use Rattle.fixpoint.specs.Sum.{bit}
use Rattle.fixpoint.proofs.Sum.{sum_le, sum_const}
use Rattle.semantics.proofs.Table.{or_cases}
use Rattle.bits.specs.Words.{has, Inserted, Removed}
use Rattle.bits.proofs.Members.{waiters, was_in}
use Rattle.settle.specs.Waiting.{WaitSet}

pub few_wait : (words : List ℕ) → waiters words ≤ 512
few_wait words = omega (arith, sum_le 512 (λ c. bit (has words c)) (λ c. 1) (λ c l. small (has words c)), sum_const 512 1)
  where
    small : (b : Bool) → bit b ≤ 1
    small true = omega arith
    small false = omega arith

module _ (words words₁ : List ℕ) (c : ℕ) (x : Removed c words words₁) where
  pub rest_in : {n : ℕ} → WaitSet n words → WaitSet n words₁
  rest_in w = record { inside = λ d l q. w.inside d l (was_in words words₁ c x d l q) }

-- a set with one more
pub joined : {n : ℕ} {words words' : List ℕ} {c : ℕ} → WaitSet n words → c < n → Inserted c words words' → WaitSet n words'
joined {words = words} {c = c} w l x =
    record {
      inside = λ d k r. ⊎_elim (λ q. w.inside d k q) (λ q. omega (arith, eqb-true d c q)) (or_cases (has words d) (eqb d c) (sym (x.1 d k) ∙ r));
    }

pub joins : (words words' : List ℕ) (c : ℕ) → c < 512 → Inserted c words words' → has words' c ≡ true
joins words words' c l x = x.1 c l ∙ rw (eq-eqb c c refl, or-true)

pub joined_else : (words words' : List ℕ) (c : ℕ) → Inserted c words words' → (d : ℕ) → d < 512 → d ≢ c → has words' d ≡ has words d
joined_else words words' c x d l z = x.1 d l ∙ rw (ne_eqb d c z, or-false)
