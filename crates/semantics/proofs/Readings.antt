-- A proper page is a monotone system; both readings and the support exist and are unique, and no answer is crossed. Assumes nothing.
use mathlib.Core.Path.{◌≡◌, ◌∙◌}
use mathlib.Core.Bool.{true, ◌&&◌, false≢true}
use mathlib.Core.Logic.{inl, inr}
use mathlib.Core.List.{List, [], ◌∷◌}
use lib.Dec.{eqb}
use borrow.Author.Tests.{eqb-true}
use Prim.Native.Nat.{ℕ, ◌<◌}
use native.Mathlib.Omega.{arith}
use Rattle.fixpoint.specs.Interval.{Within, Ordered, Assign}
use Rattle.fixpoint.specs.KnowledgeOrder.{Under}
use Rattle.fixpoint.specs.LeastFixpoint.{lfp}
use Rattle.fixpoint.specs.System.{System, Agrees}
use Rattle.fixpoint.specs.WellFounded.{closed}
use Rattle.semantics.specs.Body.{T, unknown_by_default}
use Rattle.semantics.specs.Page.{Literal, condition_of, mentions, Line, fact, rule, query, default, lines_name, Page, names}
use Rattle.semantics.proofs.Proper.{LiteralsBelow, AllInRange, Proper}
use Rattle.semantics.specs.Reading.{IsPlain, IsSupportOf, IsClosed}
use Rattle.fixpoint.proofs.LeastFixpoint.{least_unique, ext}
use Rattle.fixpoint.proofs.LeastOnReached.{reading_inside}
use Rattle.fixpoint.proofs.Support.{support_is, support_unique}
use Rattle.fixpoint.proofs.PlainReading.{operator, plain_least, least_ordered, agrees_consistent}
use Rattle.fixpoint.proofs.WellFounded.{closed_reading, closed_unique, closed_fixed, reading_ordered}
use Rattle.semantics.proofs.Relation.{T_kept, same_respected, under_respected, within_respected, compatible_respected}
use Rattle.semantics.proofs.Soundness.{both_true}
use Rattle.semantics.proofs.Table.{or_cases}

-- the rules of a proper page name only its conditions
mentions_inside : (n : ℕ) (ls : List Literal) → LiteralsBelow n ls → (b : ℕ) → mentions ls b ≡ true → b < n
unfolding mentions
mentions_inside n [] w b e = absurd (false≢true e)
mentions_inside n (l ∷ ls) w b e =
    elim (or_cases (eqb (condition_of l) b) (mentions ls b) e) [
      | inl h ↦ omega (arith, eqb-true (condition_of l) b h)
      | inr h ↦ mentions_inside n ls w.1 b h
    ]

named_inside : (top n : ℕ) (ls : List Line) → AllInRange top n ls → (a b : ℕ) → lines_name ls a b ≡ true → b < n
unfolding lines_name
named_inside top n [] w a b e = absurd (false≢true e)
named_inside top n (fact c l h ∷ ls) w a b e = named_inside top n ls w.1 a b e
named_inside top n (rule c v op lits ∷ ls) w a b e =
    elim (or_cases (eqb c a && mentions lits b) (lines_name ls a b) e) [
      | inl h ↦ mentions_inside n lits w.0.5 b (both_true (eqb c a) (mentions lits b) h).1
      | inr h ↦ named_inside top n ls w.1 a b h
    ]
named_inside top n (query r c ∷ ls) w a b e = named_inside top n ls w.1 a b e
named_inside top n (default c ∷ ls) w a b e = named_inside top n ls w.1 a b e

module _ (page : Page) (w : Proper page) where
  pub names_inside : (a b : ℕ) → names page a b ≡ true → b < page.conditions
  names_inside = named_inside page.top page.conditions page.lines w.ranged

  pub page_system : System page.conditions page.top (T page) (names page)
  page_system =
      record {
        local = λ I J a l h. T_kept page w (same_respected page.top) I J a h;
        mono = λ I J h a l. T_kept page w (under_respected page.top) I J a (λ b m e. h b m);
        bounded = λ I h a l. T_kept page w (within_respected page.top) I I a (λ b m e. h b m);
      }

  pub page_agrees : Agrees page.conditions (T page)
  page_agrees =
      record { agrees = λ I J h k c l. (T_kept page w (compatible_respected page.top) I J c (λ b m e. record { to = h b m; from = k b m })).to }

  -- there is a plain reading and a closed reading, one of each, and low ≤ high in both
  pub plain_is : IsPlain page (lfp page.conditions page.top (T page))
  plain_is = plain_least page_system

  pub closed_is : IsClosed page (closed page.conditions page.top (T page) (unknown_by_default page))
  closed_is = closed_reading (operator page_system) (unknown_by_default page)

  pub plain_one : {P Q : Assign} → IsPlain page P → IsPlain page Q → (c : ℕ) → c < page.conditions → P c ≡ Q c
  plain_one = least_unique

  pub closed_one : {P Q : Assign} → IsClosed page P → IsClosed page Q → (c : ℕ) → c < page.conditions → P c ≡ Q c
  closed_one = closed_unique (operator page_system) (unknown_by_default page)

  pub plain_ordered : {P : Assign} → IsPlain page P → (c : ℕ) → c < page.conditions → Ordered (P c)
  plain_ordered {P} = least_ordered page_system (agrees_consistent page_agrees) P

  pub closed_ordered : {C : Assign} → IsClosed page C → (c : ℕ) → c < page.conditions → Ordered (C c)
  closed_ordered = reading_ordered (operator page_system) (unknown_by_default page) page_agrees

  -- the closed reading is a fixed point of T, and lies at or above the plain one in knowledge: the closed interval is inside the plain one
  pub closed_equal : {C : Assign} → IsClosed page C → (c : ℕ) → c < page.conditions → C c ≡ T page C c
  closed_equal {C} p c l =
      closed_one p closed_is c l ∙ closed_fixed (operator page_system) (unknown_by_default page) c l
      ∙ ext (operator page_system) _ C (λ b m. closed_one closed_is p b m) c l

  pub closed_inside : {P C : Assign} → IsPlain page P → IsClosed page C → (c : ℕ) → c < page.conditions → Under (P c) (C c)
  closed_inside = reading_inside (operator page_system)

  -- the support exists for every assignment of grades, and there is one
  pub support_exists : (I : Assign) → ((c : ℕ) → c < page.conditions → Within page.top (I c)) → (J : Assign) × IsSupportOf page I J
  support_exists I w = (_, support_is (operator page_system) (unknown_by_default page) I w)

  pub support_one : {I J K : Assign} → IsSupportOf page I J → IsSupportOf page I K → (c : ℕ) → c < page.conditions → J c ≡ K c
  support_one = support_unique
