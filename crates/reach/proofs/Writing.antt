-- The run area that an opening writes, cell by cell. Assumes nothing.
use mathlib.Core.Path.{◌≡◌, sym, ◌∙◌, ap, ap₂, subst}
use mathlib.Core.Bool.{Bool}
use mathlib.Core.List.{List, ◌++◌}
use Prim.Native.Nat.{ℕ, ◌+◌, ◌*◌, ◌≤◌, ◌<◌}
use native.Mathlib.Decide.{ℕ_discrete}
use native.Mathlib.Omega.{arith}
use lib.ListN.{length, get_or, drop, set, length-set}
use lib.Seq.{get_or-set_same, get_or-set_other, drop-set-lt, drop-drop}
use Rattle.fixpoint.specs.KnowledgeOrder.{unknown}
use Rattle.fixpoint.proofs.KnowledgeOrder.{pair_eq}
use Rattle.semantics.specs.Area.{page_of, top_of, conditions_of}
use Rattle.semantics.specs.Operation.{opened_with}
use Rattle.semantics.specs.Page.{Page}
use Rattle.semantics.specs.Reading.{closure, bound}
use Rattle.semantics.specs.RunArea.{interval_at, mark_at, mark_of, run_of}
use Rattle.semantics.specs.Table.{member, all_unknown}
use Rattle.semantics.specs.Worklist.{start}
use Rattle.semantics.proofs.Areas.{from_cells}
use Rattle.semantics.proofs.Closure.{pass_count_is, pass_count_one}
use Rattle.semantics.proofs.Table.{get_d_table}
use Rattle.reach.specs.Marks.{Marks, ClosureMarks}
use Rattle.reach.specs.Opening.{accepted, Written}
use Rattle.reach.specs.Sets.{FoundIn, Counted}
use Rattle.reach.proofs.Counting.{counted_r, counted_e}
use Rattle.worklist.specs.Evaluation.{stored}

-- one cell
module _ (run : List ℕ) (c high mark : ℕ) (fits : 3 * c + 3 ≤ length run) where
  abbrev low_set : List ℕ
  low_set = set run (3 * c) 0

  abbrev high_set : List ℕ
  high_set = set low_set (3 * c + 1) high

  abbrev new : List ℕ
  new = stored c 0 high mark run

  cell_size : length new ≡ length run
  unfolding stored
  cell_size = simp length-set

  cell_pair : interval_at new c ≡ record { low = 0; high = high }
  unfolding stored
  cell_pair =
      pair_eq
      (get_or-set_other high_set (3 * c + 2) (3 * c) mark 0 (λ q. omega arith) ∙ get_or-set_other low_set (3 * c + 1) (3 * c) high 0 (λ q. omega arith) ∙ get_or-set_same run (3 * c) 0 0 (omega arith))
      (get_or-set_other high_set (3 * c + 2) (3 * c + 1) mark 0 (λ q. omega arith) ∙ get_or-set_same low_set (3 * c + 1) high 0 (simp length-set (omega arith)))

  cell_mark : mark_at new c ≡ mark
  unfolding stored
  cell_mark = get_or-set_same high_set (3 * c + 2) mark 0 (simp length-set (omega arith))

  cell_before : (i : ℕ) → i < 3 * c → get_or new i 0 ≡ get_or run i 0
  unfolding stored
  cell_before i l =
      get_or-set_other high_set (3 * c + 2) i mark 0 (λ q. omega arith) ∙ get_or-set_other low_set (3 * c + 1) i high 0 (λ q. omega arith) ∙ get_or-set_other run (3 * c) i 0 0 (λ q. omega arith)

  cell_behind : drop (3 * c + 3) new ≡ drop (3 * c + 3) run
  unfolding stored
  cell_behind =
      drop-set-lt (3 * c + 3) high_set (3 * c + 2) mark (omega arith) ∙ drop-set-lt (3 * c + 3) low_set (3 * c + 1) high (omega arith) ∙ drop-set-lt (3 * c + 3) run (3 * c) 0 (omega arith)

-- the loop over the conditions
module _ (top : ℕ) (marks : List Bool) (before : List ℕ) where
  pub written_next : {run run' : List ℕ} {c mark : ℕ} → Written c top marks before run → 3 * c + 3 ≤ length run → mark ≡ mark_of (member marks c) (member marks c) → run' ≡ stored c 0 top mark run
      → Written (c + 1) top marks before run'
  written_next {run} {run'} {c} {mark} w fits e f =
      subst (λ (r : List ℕ). Written (c + 1) top marks before r) (sym f)
      (record { size = cell_size run c top mark fits ∙ w.size; interval = interval; mark = marked; rest = rest })
    where
      interval : (d : ℕ) → d < c + 1 → interval_at (stored c 0 top mark run) d ≡ unknown top
      interval d l =
          elim (ℕ_discrete d c) [
            | yes q ↦ ap (interval_at (stored c 0 top mark run)) q ∙ cell_pair run c top mark fits
            | no q ↦ pair_eq (cell_before run c top mark fits (3 * d) (omega arith)) (cell_before run c top mark fits (3 * d + 1) (omega arith)) ∙ w.interval d (omega arith)
          ]

      marked : (d : ℕ) → d < c + 1 → mark_at (stored c 0 top mark run) d ≡ mark_of (member marks d) (member marks d)
      marked d l =
          elim (ℕ_discrete d c) [
            | yes q ↦ ap (mark_at (stored c 0 top mark run)) q ∙ cell_mark run c top mark fits ∙ e ∙ ap (λ (x : ℕ). mark_of (member marks x) (member marks x)) (sym q)
            | no q ↦ cell_before run c top mark fits (3 * d + 2) (omega arith) ∙ w.mark d (omega arith)
          ]

      rest : drop (3 * (c + 1)) (stored c 0 top mark run) ≡ drop (3 * (c + 1)) before
      rest =
          let k : 3 * (c + 1) ≡ 3 * c + 3 = omega arith in
          rw k (cell_behind run c top mark fits ∙ sym (drop-drop 3 (3 * c) run) ∙ ap (drop 3) w.rest ∙ drop-drop 3 (3 * c) before)

-- "the closure of the queries is then marked 2, and every condition holds [0;top]"
pub opened_run : (page : Page) {s marks : List Bool} {run run' : List ℕ} → Marks s marks → 3 * page.conditions ≤ length run → Written page.conditions page.top marks run run'
    → run' ≡ run_of page s (start page s) ++ drop (3 * page.conditions) run
unfolding run_of start all_unknown
opened_run page {s} {marks} {run} {run'} h l w =
    from_cells run' _ (λ c. mark_of (member s c) (member s c)) page.conditions (omega (arith, w.size))
    (λ c k. w.interval c k ∙ sym (get_d_table page.conditions (λ c. unknown page.top) c _ k))
    (λ c k. w.mark c k ∙ ap (λ (t : Bool). mark_of t t) (h.same c))
    ∙ ap (λ (r : List ℕ). run_of page s (start page s) ++ r) w.rest

-- an accepted opening
module _ (a qs run : List ℕ) where
  pub accepted_answer : {words : List ℕ} {r e b k : ℕ} → conditions_of a ≤ 512 → FoundIn (page_of a) qs words k → Counted (page_of a) words r e → b ≡ r + top_of a * e
      → opened_with r e b k ≡ (accepted a qs run).answer
  unfolding bound page_of
  accepted_answer {b = b} l f h s =
      let rs = counted_r (page_of a) qs l f.set h in
      let es = counted_e (page_of a) qs l f.set h in
      let bs : b ≡ bound (page_of a) (closure (page_of a) qs) = s ∙ ap₂ (λ (x y : ℕ). x + top_of a * y) rs es in
      let ks = pass_count_one (page_of a) qs _ _ f.counted (pass_count_is (page_of a) qs) in
      λ i. opened_with (rs i) (es i) (bs i) (ks i)

  pub accepted_run : {marks : List Bool} {run' : List ℕ} → ClosureMarks (page_of a) qs marks → 3 * conditions_of a ≤ length run → Written (conditions_of a) (top_of a) marks run run' → run' ≡ (accepted a qs run).run
  unfolding page_of
  accepted_run h l w = opened_run (page_of a) h l w
