-- The passes over marks, until one adds nothing: what is marked is then the closure of the queries. Assumes nothing.
use mathlib.Core.Path.{◌≡◌, sym, ◌∙◌, ap}
use mathlib.Core.Logic.{inl, inr}
use mathlib.Core.Bool.{Bool, true, false, ◌||◌, false≢true}
use mathlib.Core.List.{List, [], ◌∷◌}
use Prim.Native.Nat.{ℕ, ◌<◌}
use native.Mathlib.Decide.{dec_le}
use native.Mathlib.Omega.{arith}
use lib.Dec.{eqb, ltb}
use lib.ListN.{length, get_or-eq_default}
use borrow.Author.Tests.{eqb-true, ltb-true}
use Rattle.fixpoint.specs.ChaoticIteration.{DependencyClosed}
use Rattle.semantics.specs.Area.{all_under}
use Rattle.semantics.specs.Page.{Page, names}
use Rattle.semantics.proofs.Proper.{Proper}
use Rattle.semantics.specs.Reading.{Reached, queried, named, closure, reached}
use Rattle.semantics.specs.Table.{member, listed}
use Rattle.semantics.proofs.Closure.{closure_length, reached_sound, reached_closed, reached_real, reached_complete}
use Rattle.semantics.proofs.Readings.{names_inside}
use Rattle.semantics.proofs.Soundness.{both_true}
use Rattle.semantics.proofs.Table.{or_cases, iff_eq}
use Rattle.bits.specs.Words.{has}
use Rattle.reach.specs.Marks.{Unmarked, ClosureMarks}
use Rattle.reach.specs.Sets.{Joins, Swept}

-- queries are conditions
pub asked_in : (n : ℕ) (xs : List ℕ) → all_under n xs ≡ true → (c : ℕ) → listed c xs ≡ true → c < n
unfolding all_under listed
asked_in n [] e c h = absurd (false≢true h)
asked_in n (x ∷ xs) e c h =
    let b = both_true (ltb x n) (all_under n xs) e in
    elim (or_cases (eqb x c) (listed c xs) h) [
      | inl q ↦ omega (arith, ltb-true x n b.0, eqb-true x c q)
      | inr q ↦ asked_in n xs b.1 c q
    ]

module _ (page : Page) (qs : List ℕ) where
  abbrev n : ℕ
  n = page.conditions

  closure_inside : (c : ℕ) → reached page qs c ≡ true → c < n
  closure_inside c e =
      elim (dec_le n c) [
        | yes l ↦ absurd (false≢true (sym (get_or-eq_default (closure page qs) false (omega (arith, closure_length page qs))) ∙ e))
        | no l ↦ omega arith
      ]

  module _ (w : Proper page) (asked : all_under n qs ≡ true) where
    real : (c : ℕ) → listed c qs ≡ true → c < n
    real = asked_in n qs asked

    inside : (a b : ℕ) → names page a b ≡ true → b < n
    inside = names_inside page w

    -- a set between the queries and the closure that names only itself is the closure
    module _ (marks : List Bool) (has_asked : (c : ℕ) → listed c qs ≡ true → member marks c ≡ true) (in_closure : (c : ℕ) → c < 512 → member marks c ≡ true → reached page qs c ≡ true)
        (closed : DependencyClosed n (names page) (member marks)) where
      grown : {c : ℕ} → Reached page qs c → member marks c ≡ true
      grown {c} (queried q) = has_asked c q
      grown {c} (named {a = a} p q) = closed a c (reached_real page qs inside real p) (inside a c q) (grown p) q

      pub closed_same : (c : ℕ) → c < 512 → member marks c ≡ member (closure page qs) c
      closed_same c l = iff_eq (member marks c) (reached page qs c) (in_closure c l) (λ q. grown (reached_sound page qs c (closure_inside c q) q))

    -- the set of the queries
    pub queries_in : (blank words : List ℕ) → ((c : ℕ) → has blank c ≡ false) → Joins (λ c. listed c qs) (has blank) (has words) → (c : ℕ) → c < 512 → has words c ≡ listed c qs
    queries_in blank words z h c l = h.is c l ∙ ap (λ (t : Bool). t || listed c qs) (z c)

-- the loop of passes
module _ (page : Page) (qs : List ℕ) where
  pub record Spreading (marks : List Bool) : Type 0 where
    pub size : length marks ≡ 512
    pub has_asked : (c : ℕ) → listed c qs ≡ true → member marks c ≡ true
    pub in_closure : (c : ℕ) → c < 512 → member marks c ≡ true → reached page qs c ≡ true

  pub spreading_first : (w : Proper page) (asked : all_under page.conditions qs ≡ true) (blank marks : List Bool) → Unmarked blank → Joins (λ c. listed c qs) (member blank) (member marks) → length marks ≡ 512 → Spreading marks
  spreading_first w asked blank marks z h size =
      let in_range = asked_in page.conditions qs asked in
      let is : (c : ℕ) → c < 512 → member marks c ≡ listed c qs = λ c l. h.is c l ∙ ap (λ (t : Bool). t || listed c qs) (z.1 c) in
      record {
        size = size;
        has_asked = λ c e. is c (omega (arith, w.conditions_most, in_range c e)) ∙ e;
        in_closure = λ c l e. reached_complete page qs (names_inside page w) in_range (queried (sym (is c l) ∙ e));
      }

  module _ (w : Proper page) (asked : all_under page.conditions qs ≡ true) {marks marks' : List Bool} {new : ℕ} (p : Spreading marks) (s : Swept page marks marks' new) (size : length marks' ≡ 512) where
    pub spreading_next : Spreading marks'
    spreading_next =
        record {
          size = size;
          has_asked = λ c q. s.grows c (omega (arith, w.conditions_most, asked_in page.conditions qs asked c q)) (p.has_asked c q);
          in_closure = s.inside (reached page qs) (reached_closed page qs) p.in_closure;
        }

    pub spreading_last : new ≡ 0 → ClosureMarks page qs marks'
    spreading_last e = record { size = size; same = same }
      where
        same : (c : ℕ) → member marks' c ≡ member (closure page qs) c
        same c =
            elim (dec_le 512 c) [
              | yes l ↦ get_or-eq_default marks' false (omega (arith, size)) ∙ sym (get_or-eq_default (closure page qs) false (omega (arith, closure_length page qs, w.conditions_most)))
              | no l ↦ closed_same page qs w asked marks' spreading_next.has_asked spreading_next.in_closure (s.settled e) c (omega arith)
            ]
