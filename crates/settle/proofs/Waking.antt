-- The set of those that wait: heads that join it. Assumes nothing.
use mathlib.Core.Path.{◌≡◌, refl, sym, ◌∙◌, subst}
use mathlib.Core.Logic.{◌⊎◌, inl, inr, ⊎_elim}
use mathlib.Core.Bool.{Bool, true, or-true, true≢false}
use mathlib.Core.List.{List}
use Prim.Native.Nat.{ℕ, ◌+◌, ◌<◌}
use native.Mathlib.Decide.{ℕ_discrete}
use native.Mathlib.Omega.{arith}
use lib.ListN.{length, get_or}
use lib.Dec.{eqb}
use borrow.Author.Tests.{eq-eqb, eqb-true}
use Rattle.semantics.specs.Area.{conditions_of}
use Rattle.semantics.proofs.Table.{or_cases}
use Rattle.page.specs.Solvable.{solvable}
use Rattle.page.proofs.Head.{head_of}
use Rattle.bits.specs.Words.{has, Inserted}
use Rattle.index.specs.Lookup.{HeadsAre}
use Rattle.index.proofs.Readers.{reads_below}
use Rattle.settle.specs.Waiting.{WaitSet, Woken}

-- the heads of a group join the set one after the other, those below a number
pub record Joined (heads : List ℕ) (i : ℕ) (words₀ words : List ℕ) : Type 0 where
  pub kept : (c : ℕ) → c < 512 → has words₀ c ≡ true → has words c ≡ true
  pub woken : (j : ℕ) → j < i → has words (get_or heads j 0) ≡ true
  pub only : (c : ℕ) → c < 512 → has words c ≡ true → (has words₀ c ≡ true) ⊎ ((j : ℕ) × (j < i) × (get_or heads j 0 ≡ c))

pub joined_next : {heads words₀ words words' : List ℕ} {i : ℕ} → ((j : ℕ) → j < i + 1 → get_or heads j 0 < 512) → Joined heads i words₀ words → Inserted (get_or heads i 0) words words'
    → Joined heads (i + 1) words₀ words'
joined_next {heads} {words₀} {words} {words'} {i} small v w =
    record {
      kept = λ c l r. w.1 c l ∙ rw (v.kept c l r);
      woken = λ j l. elim (ℕ_discrete j i) [
        | yes z ↦ subst (λ (k : ℕ). has words' (get_or heads k 0) ≡ true) (sym z) (w.1 (get_or heads i 0) (small i (omega arith)) ∙ rw (eq-eqb (get_or heads i 0) (get_or heads i 0) refl, or-true))
        | no z ↦ old j (omega arith)
      ];
      only = λ c l r. elim (or_cases (has words c) (eqb c (get_or heads i 0)) (sym (w.1 c l) ∙ r)) [
        | inl q ↦ elim (v.only c l q) [ inl y ↦ inl y | inr y ↦ inr (y.0, omega (arith, y.1), y.2) ]
        | inr q ↦ inr (i, omega arith, sym (eqb-true c (get_or heads i 0) q))
      ];
    }
  where
    old : (j : ℕ) → j < i → has words' (get_or heads j 0) ≡ true
    old j u = w.1 (get_or heads j 0) (small j (omega arith)) ∙ rw (v.woken j u)

-- the heads of a literal
module _ (a : List ℕ) (ok : solvable a ≡ true) (code : ℕ) {heads : List ℕ} (g : HeadsAre a code heads) where
  head_real : (j : ℕ) → j < length heads → get_or heads j 0 < conditions_of a
  head_real j l = reads_below a ok code (get_or heads j 0) (g.only j l)

  pub heads_small : (j : ℕ) → j < length heads → get_or heads j 0 < 512
  heads_small j l = omega (arith, head_real j l, (head_of a ok).few)

  pub woken_by : {indexed : Bool} {words words' : List ℕ} {i : ℕ} → indexed ≡ true → i ≡ length heads → WaitSet (conditions_of a) words → Joined heads i words words'
      → Woken a indexed code words words'
  woken_by {words' = words'} y e s w =
      record {
        set = record { inside = λ c m r. ⊎_elim (λ q. s.inside c m q) (λ q. rw (← q.2) (head_real q.0 (rw (← e) q.1))) (w.only c m r) };
        kept = w.kept;
        woken = inr (λ h r. let q = g.every h r in subst (λ (x : ℕ). has words' x ≡ true) q.2 (w.woken q.0 (rw e q.1)));
        same = λ z. absurd (true≢false (sym y ∙ z));
      }
