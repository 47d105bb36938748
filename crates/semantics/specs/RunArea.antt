-- Document 01, "Areas": the run area and its soundness. Assumes nothing.
use Rattle.std.specs.Prelude.{Bool, true, false, ◌&&◌, ◌||◌, List, [], ◌∷◌, ℕ, zero, suc, ◌+◌, ◌*◌, eqb, leb, length, get_or}
use Rattle.fixpoint.specs.Interval.{Interval, Assign, same}
use Rattle.fixpoint.specs.KnowledgeOrder.{unknown}
use Rattle.semantics.specs.Page.{Page}
use Rattle.semantics.specs.Area.{every}
use Rattle.semantics.specs.Table.{table, member, interval_of, all_below}
use Rattle.semantics.specs.Worklist.{Worklist}

-- "low, high, mark for each condition in turn": for n conditions from c on
unfoldable pub cells : ℕ → ℕ → Assign → (ℕ → ℕ) → List ℕ
cells zero c I mark = []
cells (suc n) c I mark = (I c).low ∷ (I c).high ∷ mark c ∷ cells n (suc c) I mark

-- "mark 2 for a waiting condition, 1 for any other reached one and 0 for the rest"
abbrev pub mark_of : Bool → Bool → ℕ
mark_of true reached = 2
mark_of false true = 1
mark_of false false = 0

-- the run area of a state, where m is the set of the reached conditions
unfoldable pub run_of : Page → List Bool → Worklist → List ℕ
run_of page m b = cells page.conditions 0 (interval_of b.intervals) (λ c. mark_of (member b.waiting c) (member m c))

-- and back: what a run area holds
abbrev pub interval_at : List ℕ → Assign
interval_at r c = record { low = get_or r (3 * c) 0; high = get_or r (3 * c + 1) 0 }

abbrev pub mark_at : List ℕ → ℕ → ℕ
mark_at r c = get_or r (3 * c + 2) 0

unfoldable pub worklist_of : Page → List ℕ → Worklist
worklist_of page r = record { intervals = table page.conditions (interval_at r); waiting = table page.conditions (λ c. eqb (mark_at r c) 2) }

-- "a condition is reached if its mark is 1 or 2"
unfoldable pub reached_of : Page → List ℕ → List Bool
reached_of page r = table page.conditions (λ c. leb 1 (mark_at r c))

-- "It is sound when low ≤ high ≤ top, marks are 0 to 2, and a condition with mark 0 holds [0;top]."
abbrev pub cell_tests : ℕ → Interval → ℕ → List Bool
cell_tests top p mark = leb p.low p.high ∷ leb p.high top ∷ leb mark 2 ∷ (leb 1 mark || same p (unknown top)) ∷ []

-- long enough, and sound
unfoldable pub run_sound : Page → List ℕ → Bool
run_sound page r = leb (3 * page.conditions) (length r) && all_below page.conditions (λ c. every (cell_tests page.top (interval_at r c) (mark_at r c)))
