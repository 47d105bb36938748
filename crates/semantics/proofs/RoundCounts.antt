-- The count of rounds of a proper page: it exists, there is one, it is at most R × top, and assignment k is then the closed reading.
-- Assumes nothing.
use mathlib.Core.Path.{◌≡◌, ◌∙◌}
use mathlib.Core.List.{List}
use Prim.Native.Nat.{ℕ, ◌*◌, ◌≤◌}
use Rattle.fixpoint.specs.Interval.{Assign}
use Rattle.fixpoint.specs.KnowledgeOrder.{Alike}
use Rattle.fixpoint.specs.ChaoticIteration.{DependencyClosed}
use Rattle.semantics.specs.Body.{unknown_by_default}
use Rattle.semantics.specs.Page.{Page, names}
use Rattle.semantics.specs.Reading.{IsClosed, closure, reached, count_r}
use Rattle.semantics.specs.Rounds.{IsRounds}
use Rattle.fixpoint.proofs.ClosedRounds.{count_closed, count_bound, count_is}
use Rattle.fixpoint.proofs.RoundCount.{count_unique}
use Rattle.semantics.proofs.Closure.{reached_closed}
use Rattle.semantics.proofs.Proper.{Proper}
use Rattle.semantics.proofs.Readings.{page_system, page_agrees, closed_is, closed_one}
use Rattle.semantics.proofs.RoundsReached.{stages_stage, counted_count, count_counted}

module _ (page : Page) (w : Proper page) (qs : List ℕ) where
  shut : DependencyClosed page.conditions (names page) (reached page qs)
  shut = reached_closed page qs

  pub rounds_exist : (k : ℕ) × IsRounds page qs k
  rounds_exist =
      let f = count_is (page_system page w) shut (unknown_by_default page) (page_agrees page w) in
      (f.0, count_counted (page_system page w) shut (unknown_by_default page) f.1)

  pub rounds_one : {j k : ℕ} → IsRounds page qs j → IsRounds page qs k → j ≡ k
  rounds_one p q =
      count_unique (counted_count (page_system page w) shut (unknown_by_default page) p) (counted_count (page_system page w) shut (unknown_by_default page) q)

  -- "That count is at most R × top."
  pub rounds_most : {k : ℕ} → IsRounds page qs k → k ≤ count_r page (closure page qs) * page.top
  unfolding count_r
  rounds_most i =
      count_bound (page_system page w) shut (unknown_by_default page) (page_agrees page w) (counted_count (page_system page w) shut (unknown_by_default page) i)

  -- the assignment at the count is the closed reading on what is reached
  pub rounds_closed : {k : ℕ} (i : IsRounds page qs k) {C : Assign} → IsClosed page C → Alike page.conditions (reached page qs) (i.assignment k) C
  rounds_closed {k} i p c l r =
      stages_stage (page_system page w) shut (unknown_by_default page) i.stages k c l r
      ∙ count_closed (page_system page w) shut (unknown_by_default page) (counted_count (page_system page w) shut (unknown_by_default page) i) c l r
      ∙ closed_one page w (closed_is page w) p c l
