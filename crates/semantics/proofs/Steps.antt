-- An evaluation keeps a state one that a sound run area can hold. Assumes nothing.
use mathlib.Core.Path.{◌≡◌, sym, ◌∙◌, ap}
use mathlib.Core.Logic.{◌≢◌, inl, inr}
use mathlib.Core.Bool.{Bool, true, false, not, ◌&&◌, ◌||◌, true≢false}
use mathlib.Core.List.{List}
use Prim.Native.Nat.{ℕ, ◌≤◌, ◌<◌}
use native.Mathlib.Decide.{ℕ_discrete}
use native.Mathlib.Omega.{arith}
use lib.Dec.{eqb}
use lib.ListN.{length-set}
use lib.Seq.{get_or-set_same, get_or-set_other}
use Rattle.fixpoint.specs.Interval.{Interval, Ordered, Within, Assign}
use Rattle.semantics.specs.Body.{T}
use Rattle.semantics.specs.Page.{Page, names}
use Rattle.semantics.proofs.Proper.{Proper}
use Rattle.semantics.specs.Table.{interval_of, member}
use Rattle.semantics.specs.Worklist.{Worklist, changes, waiting_after, evaluated}
use Rattle.fixpoint.proofs.PlainReading.{agrees_consistent}
use Rattle.semantics.proofs.Areas.{Encodable}
use Rattle.semantics.proofs.Readings.{page_system, page_agrees}
use Rattle.semantics.proofs.Soundness.{both_true}
use Rattle.semantics.proofs.Table.{length_from, get_d_table, or_cases}

module _ (page : Page) (w : Proper page) (m : List Bool) (b : Worklist) (h : Encodable page m b) (A : ℕ) (l : A < page.conditions) (e : member b.waiting A ≡ true) where
  abbrev I : Assign
  I = interval_of b.intervals

  -- the intervals after it: T at A, and the others as they were
  pub puts_same : interval_of (evaluated page m b A).intervals A ≡ T page I A
  unfolding evaluated
  puts_same = get_or-set_same b.intervals A (T page I A) _ (omega (arith, h.intervals_length))

  pub puts_other : (c : ℕ) → c ≢ A → interval_of (evaluated page m b A).intervals c ≡ I c
  unfolding evaluated
  puts_other c q = get_or-set_other b.intervals A c (T page I A) _ q

  -- what holds of T at A and of the others holds of all
  puts_all : (P : ℕ → Interval → Type 0) → P A (T page I A) → ((c : ℕ) → c < page.conditions → P c (I c)) → (c : ℕ) → c < page.conditions → P c (interval_of (evaluated page m b A).intervals c)
  puts_all P here there c k =
      elim (ℕ_discrete c A) [
        | yes q ↦ rw q (rw puts_same here)
        | no q ↦ rw (puts_other c q) (there c k)
      ]

  grades : (c : ℕ) → c < page.conditions → Within page.top (I c)
  grades c k = omega (arith, h.ordered c k, h.within c k)

  -- who waits after it
  pub waits_after : (c : ℕ) → c < page.conditions
      → member (evaluated page m b A).waiting c ≡ ((member b.waiting c && not (eqb c A)) || (changes page b A && (member m c && names page c A)))
  unfolding evaluated waiting_after
  waits_after c k = get_d_table page.conditions _ c false k

  waits_inside : (c : ℕ) → c < page.conditions → member (evaluated page m b A).waiting c ≡ true → member m c ≡ true
  waits_inside c k q =
      elim (or_cases (member b.waiting c && not (eqb c A)) (changes page b A && (member m c && names page c A)) (sym (waits_after c k) ∙ q)) [
        | inl r ↦ h.inside c k (both_true (member b.waiting c) (not (eqb c A)) r).0
        | inr r ↦ (both_true (member m c) (names page c A) (both_true (changes page b A) (member m c && names page c A) r).1).0
      ]

  pub encodable_evaluated : Encodable page m (evaluated page m b A)
  encodable_evaluated =
      record {
        reached_length = h.reached_length;
        intervals_length = unfold evaluated in length-set b.intervals A (T page I A) ∙ h.intervals_length;
        waiting_length = unfold evaluated waiting_after in length_from page.conditions 0 _;
        inside = waits_inside;
        ordered = puts_all (λ c p. Ordered p) ((agrees_consistent (page_agrees page w)).consistent I h.ordered A l) h.ordered;
        within = puts_all (λ c p. p.high ≤ page.top) ((page_system page w).bounded I grades A l).high_in h.within;
        unreached = λ c k f. puts_other c (λ q. true≢false (sym (h.inside A l e) ∙ ap (member m) (sym q) ∙ f)) ∙ h.unreached c k f;
      }
