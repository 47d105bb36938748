-- The count of rounds: the first that the next one equals. Assumes nothing.
use mathlib.Core.Path.{◌≡◌, refl, sym, ◌∙◌, ap, subst}
use mathlib.Core.Logic.{◌⊎◌, inl, inr}
use mathlib.Core.Bool.{Bool, true, false, true≢false}
use Prim.Native.Nat.{ℕ, zero, suc, ◌<◌}
use native.Mathlib.Decide.{dec_le, ℕ_discrete}
use native.Mathlib.Omega.{arith}
use Rattle.fixpoint.specs.Interval.{Interval, Assign}
use Rattle.fixpoint.specs.KnowledgeOrder.{Alike}
use Rattle.fixpoint.specs.LeastFixpoint.{iter}
use Rattle.fixpoint.specs.Reachable.{IsCount}
use Rattle.fixpoint.proofs.KnowledgeOrder.{pair_eq}

-- there is one count
pub count_unique : {n top : ℕ} {U : Assign → ℕ → Interval} {reached : ℕ → Bool} {j k : ℕ} → IsCount n top U reached j
    → IsCount n top U reached k → j ≡ k
count_unique {j = j} {k = k} p q =
    elim (dec_le (suc j) k) [
      | yes l ↦ absurd (q.moving j l p.still)
      | no l ↦
          elim (dec_le (suc k) j) [
            | yes m ↦ absurd (p.moving k m q.still)
            | no m ↦ omega arith
          ]
    ]

-- a count exists where the rounds end
pair_discrete : (p q : Interval) → Dec (p ≡ q)
pair_discrete p q =
    elim (ℕ_discrete p.low q.low) [
      | yes e ↦
          elim (ℕ_discrete p.high q.high) [
            | yes f ↦ yes (pair_eq e f)
            | no f ↦ no (λ g. f (ap (λ (r : Interval). r.high) g))
          ]
      | no e ↦ no (λ g. e (ap (λ (r : Interval). r.low) g))
    ]

here : (reached : ℕ → Bool) (I J : Assign) (c : ℕ) → Dec (reached c ≡ true → I c ≡ J c)
here reached I J c = go (reached c) refl
  where
    go : (t : Bool) → reached c ≡ t → Dec (reached c ≡ true → I c ≡ J c)
    go true e =
        elim (pair_discrete (I c) (J c)) [
          | yes f ↦ yes (λ r. f)
          | no f ↦ no (λ g. f (g e))
        ]
    go false e = yes (λ r. absurd (true≢false (sym r ∙ e)))

pub dec_alike : (n : ℕ) (reached : ℕ → Bool) (I J : Assign) → Dec (Alike n reached I J)
dec_alike zero reached I J = yes (λ c l. absurd (omega arith))
dec_alike (suc n) reached I J =
    elim (dec_alike n reached I J) [
      | yes h ↦
          elim (here reached I J n) [
            | yes g ↦
                yes (λ c l. elim (ℕ_discrete c n) [
                  | yes e ↦ subst (λ (b : ℕ). reached b ≡ true → I b ≡ J b) (sym e) g
                  | no e ↦ h c (omega arith)
                ])
            | no g ↦ no (λ f. g (f n (omega arith)))
          ]
      | no h ↦ no (λ f. h (λ c l. f c (omega arith)))
    ]

first_still : (n top : ℕ) (U : Assign → ℕ → Interval) (reached : ℕ → Bool) (m : ℕ)
    → ((k : ℕ) × IsCount n top U reached k) ⊎ ((j : ℕ) → j < m → ¬ Alike n reached (iter top U j) (iter top U (suc j)))
first_still n top U reached zero = inr (λ j l. absurd (omega arith))
first_still n top U reached (suc m) =
    elim (first_still n top U reached m) [
      | inl f ↦ inl f
      | inr h ↦
          elim (dec_alike n reached (iter top U m) (iter top U (suc m))) [
            | yes s ↦ inl (m, record { still = s; moving = h })
            | no s ↦ inr (λ j l. elim (ℕ_discrete j m) [
              | yes e ↦ subst (λ (i : ℕ). ¬ Alike n reached (iter top U i) (iter top U (suc i))) (sym e) s
              | no e ↦ h j (omega arith)
            ])
          ]
    ]

pub count_exists : (n top : ℕ) (U : Assign → ℕ → Interval) (reached : ℕ → Bool) (m : ℕ)
    → Alike n reached (iter top U m) (iter top U (suc m)) → (k : ℕ) × IsCount n top U reached k
count_exists n top U reached m h = elim (first_still n top U reached (suc m)) [ inl f ↦ f | inr g ↦ absurd (g m (omega arith) h) ]
