-- On a crisp page with layers every closed answer has low equal to high. Assumes nothing.
use mathlib.Core.Path.{◌≡◌, refl, sym, ◌∙◌, ap, subst}
use mathlib.Core.List.{List}
use mathlib.Core.Option.{Option, none}
use mathlib.Core.Bool.{Bool, true, false, cond, false≢true}
use Prim.Native.Nat.{ℕ, zero, suc, ◌≤◌, ◌<◌}
use native.Mathlib.Decide.{dec_le}
use native.Mathlib.Omega.{arith}
use lib.Dec.{leb}
use borrow.Author.Tests.{le-leb, lt-leb}
use Rattle.fixpoint.specs.Interval.{Interval, Within, Assign}
use Rattle.fixpoint.specs.KnowledgeOrder.{join}
use Rattle.fixpoint.specs.LeastFixpoint.{Operator}
use Rattle.fixpoint.specs.System.{Agrees}
use Rattle.fixpoint.specs.Support.{Safe, support}
use Rattle.fixpoint.specs.WellFounded.{IsClosedReading, closed}
use Rattle.fixpoint.proofs.PlainReading.{operator}
use Rattle.fixpoint.proofs.Support.{safe_by, support_is, support_fixed}
use Rattle.fixpoint.proofs.WellFounded.{closed_within, closed_closes, closed_reading, closed_fixed, closed_ordered, closed_unique}
use Rattle.semantics.specs.Body.{unknown_by_default}
use Rattle.semantics.specs.Page.{Page}
use Rattle.semantics.proofs.Proper.{Proper}
use Rattle.semantics.specs.Reading.{IsClosed}
use Rattle.semantics.proofs.Readings.{page_system, page_agrees}
use Rattle.semantics.specs.Area.{page_of}
use Rattle.semantics.specs.Call.{first_of}
use Rattle.semantics.proofs.Soundness.{sound_proper}
use Rattle.semantics.specs.Layers.{layered, layers_causes, LayersAs, LayersOf, Loops, Crisp}
use Rattle.semantics.proofs.Walks.{LayersOn}
use Rattle.semantics.proofs.LayersCheck.{sound_by}
use Rattle.semantics.proofs.Layers.{layers_on, free_passed, loop_no_layers}
use Rattle.semantics.proofs.CrispPages.{T_beneath, none_unknown}

-- T does not widen
pub record Sharp (n : ℕ) (T : Assign → ℕ → Interval) (names negates : ℕ → ℕ → Bool) : Type 0 where
  pub sharp : (I J : Assign) (c : ℕ) → c < n → ((b : ℕ) → b < n → names c b ≡ true → (I b).high ≤ (J b).low)
      → ((b : ℕ) → b < n → negates c b ≡ true → (J b).high ≤ (I b).low) → (T I c).high ≤ (T J c).low

-- with no condition unknown by default
module _ {n top : ℕ} {T : Assign → ℕ → Interval} (O : Operator n top T) (free : ℕ → Bool) (false-by-default : (c : ℕ) → c < n → free c ≡ false)
    {names negates : ℕ → ℕ → Bool} (S : Sharp n T names negates) {lay : ℕ → ℕ} (layers : LayersOn n names negates lay) where
  abbrev C : Assign
  C = closed n top T free

  high_eq : {p q : Interval} → p ≡ q → p.high ≡ q.high
  high_eq e = ap (λ (p : Interval). p.high) e

  low_eq : {p q : Interval} → p ≡ q → p.low ≡ q.low
  low_eq e = ap (λ (p : Interval). p.low) e

  -- in the closed reading the support is the high end
  support_high : (c : ℕ) → c < n → (support n top T free C c).high ≡ (C c).high
  support_high c l = support_fixed O free C (closed_within O free) c l (false-by-default c l) ∙ sym (high_eq (closed_closes O free c l))

  -- up to layer k nothing is claimed past the low end
  cap : ℕ → Assign
  cap k b = record { low = 0; high = cond (leb (lay b) k) (C b).low (C b).high }

  cap_in : (k b : ℕ) → lay b ≤ k → (cap k b).high ≡ (C b).low
  unfolding cap
  cap_in k b h = rw (le-leb (lay b) k h)

  cap_out : (k b : ℕ) → k < lay b → (cap k b).high ≡ (C b).high
  unfolding cap
  cap_out k b h = rw (lt-leb (lay b) k h)

  cap_low : (k b : ℕ) → (cap k b).low ≡ 0
  unfolding cap
  cap_low k b = refl

  cap_within : (k c : ℕ) → c < n → Within top (cap k c)
  cap_within k c l =
      elim (dec_le (lay c) k) [
        | yes m ↦ omega (arith, cap_low k c, cap_in k c m, closed_within O free c l)
        | no m ↦ omega (arith, cap_low k c, cap_out k c (omega arith), closed_within O free c l)
      ]

  -- that is safe, where all below layer k have low equal to high
  cap_safe : (k : ℕ) → ((c : ℕ) → c < n → lay c < k → (C c).high ≤ (C c).low) → Safe n top T free C (cap k)
  cap_safe k h =
      safe_by (cap_within k) (λ c l. omega (arith, cap_low k c)) (λ c l e. absurd (false≢true (sym (false-by-default c l) ∙ e)))
      (λ c l. omega (arith, cap_low k c, bears c l (dec_le (lay c) k)))
    where
      bears : (c : ℕ) → c < n → Dec (lay c ≤ k) → (T (join C (cap k)) c).high ≤ (cap k c).high
      bears c l (yes m) =
          omega (
            arith,
            cap_in k c m,
            low_eq (closed_fixed O free c l),
            S.sharp (join C (cap k)) C c l (λ b i e. omega (arith, layers.named c b l i e, cap_in k b (omega (arith, layers.named c b l i e))))
                (λ b i e. omega (arith, cap_low k b, h b i (omega (arith, layers.denied c b l i e)))),
          )
      bears c l (no m) =
          omega (arith, cap_out k c (omega arith), high_eq (closed_fixed O free c l), O.mono C (join C (cap k)) (λ b i. omega (arith, cap_low k b)) c l)

  sharp_below : (k c : ℕ) → c < n → lay c < k → (C c).high ≤ (C c).low
  sharp_below zero c l m = omega arith
  sharp_below (suc k) c l m =
      omega (arith, cap_in k c (omega arith), support_high c l, (support_is O free C (closed_within O free)).greatest (cap k) (cap_safe k (sharp_below k)) c l)

  pub reading_exact : Agrees n T → {D : Assign} → IsClosedReading n top T free D → (c : ℕ) → c < n → (D c).low ≡ (D c).high
  reading_exact G {D} d c l =
      subst (λ (p : Interval). p.low ≡ p.high) (closed_unique O free (closed_reading O free) d c l)
      (omega (arith, closed_ordered O free G c l, sharp_below (suc (lay c)) c l (omega arith)))

-- "On a page that passes, .. every closed answer has low equal to high."
pub closed_exact : (page : Page) → Proper page → Crisp page → ((c : ℕ) → ¬ Loops page c) → (C : Assign) → IsClosed page C
    → (c : ℕ) → c < page.conditions → (C c).low ≡ (C c).high
closed_exact page w s free C d =
    reading_exact (operator (page_system page w)) (unknown_by_default page) (λ c l. none_unknown page s c)
    (record { sharp = λ I J c l h g. T_beneath page w s I J c h g }) (layers_on page w (free_passed page w free).is_least.layers) (page_agrees page w) d

-- the same, of a page area that the check passed
pub passed_exact : (a s x : List ℕ) → first_of (layers_causes a s) ≡ none → LayersOf layered a s x → Crisp (page_of a) → (C : Assign) → IsClosed (page_of a) C
    → (c : ℕ) → c < (page_of a).conditions → (C c).low ≡ (C c).high
unfolding LayersOf
passed_exact a s x e h k =
    let g = subst (λ (o : Option ℕ). LayersAs o layered (page_of a) s x) e h in
    closed_exact (page_of a) (sound_proper a (sound_by a s e)) k (λ c v. loop_no_layers v g.is_least.layers)
