-- Demand 3: any accepted opening, then any list of evaluations, drives, value and line calls. One statement. Assumes nothing.
use Rattle.std.specs.Prelude.{◌≡◌, ◌≢◌, ◌↔◌, Bool, true, false, List, [], ◌∷◌, ◌++◌, ℕ, ◌+◌, ◌*◌, ◌≤◌, ◌<◌, drop}
use Rattle.fixpoint.specs.Interval.{Assign}
use Rattle.semantics.specs.Page.{Page}
use Rattle.semantics.specs.Table.{member, interval_of}
use Rattle.semantics.specs.Reading.{IsPlain, Reached, closure, IsPassCount, count_r, count_e}
use Rattle.semantics.specs.Area.{page_of}
use Rattle.semantics.specs.Worklist.{Worklist, start, rest, status}
use Rattle.semantics.specs.RunArea.{run_of}
use Rattle.semantics.specs.Call.{Call, evaluate, Answer, refused, outcome, taken}
use Rattle.semantics.specs.Operation.{opened_with, operation, open_of}

-- a list of calls on areas: the answers, and the run area after them
pub record Performed : Type 0 where
  pub answers : List Answer
  pub run : List ℕ

unfoldable pub perform : List ℕ → List ℕ → List Call → Performed
perform a r [] = record { answers = []; run = r }
perform a r (c ∷ cs) =
    let o = operation a r c in
    let l = perform a o.run cs in
    record { answers = o.answer ∷ l.answers; run = l.run }

-- the same list in the book, where m is the set of the reached conditions: it never looks at an area or an answer
pub record Recorded : Type 0 where
  pub answers : List Answer
  pub state : Worklist

unfoldable pub perform_from : Page → List Bool → Worklist → List Call → Recorded
perform_from page m b [] = record { answers = []; state = b }
perform_from page m b (c ∷ cs) =
    let o = outcome page m b c in
    let l = perform_from page m o.state cs in
    record { answers = o.answer ∷ l.answers; state = l.state }

-- the book after the accepted opening with the queries qs and the calls
abbrev pub perform_book : Page → List ℕ → List Call → Recorded
perform_book page qs calls = perform_from page (closure page qs) (start page (closure page qs)) calls

-- the interval of c in the book
abbrev pub book_at : Page → List ℕ → List Call → Assign
book_at page qs calls = interval_of (perform_book page qs calls).state.intervals

-- What holds after the calls, for a page area a, queries qs and a run area r whose opening returned R, E, B and the count of passes k:
pub record RunKeeps (a qs r : List ℕ) (R E B k : ℕ) (calls : List Call) : Type 0 where
  -- the computed closure is what the queries reach
  pub reached_are : (c : ℕ) → (member (closure (page_of a) qs) c ≡ true) ↔ Reached (page_of a) qs c
  -- R counts the reached conditions, E the pairs of them where a rule of the one names the other, and the bound is R + top × E
  pub reached_count : R ≡ count_r (page_of a) (closure (page_of a) qs)
  pub edge_count : E ≡ count_e (page_of a) (closure (page_of a) qs)
  pub bound_is : B ≡ R + (page_of a).top * E
  -- k counts the passes that find the reached conditions, the last one too, and is 1 to R
  pub pass_count : IsPassCount (page_of a) qs k
  pub passes_few : k ≤ R
  -- the area is the book's, with what lies past 3 × C untouched, and the answers are the book's
  pub area : (perform a (open_of a qs r).run calls).run
      ≡ run_of (page_of a) (closure (page_of a) qs) (perform_book (page_of a) qs calls).state ++ drop (3 * (page_of a).conditions) r
  pub answers : (perform a (open_of a qs r).run calls).answers ≡ (perform_book (page_of a) qs calls).answers
  -- there is a plain answer
  pub plain_exists : (P : Assign) × IsPlain (page_of a) P
  -- no interval excludes a grade g that the plain answer allows
  pub covers : (P : Assign) → IsPlain (page_of a) P → (c g : ℕ) → c < (page_of a).conditions → (P c).low ≤ g → g ≤ (P c).high
      → ((book_at (page_of a) qs calls c).low ≤ g) × (g ≤ (book_at (page_of a) qs calls c).high)
  -- the evaluations taken, by the answers given, are at most R + top × E
  pub in_time : taken (perform a (open_of a qs r).run calls).answers ≤ B
  -- at rest exactly when no condition waits
  pub rests : (status (perform_book (page_of a) qs calls).state ≡ rest)
      ↔ ((c : ℕ) → c < (page_of a).conditions → member (perform_book (page_of a) qs calls).state.waiting c ≡ false)
  -- the evaluation of a waiting condition is accepted
  pub accepted : (c : ℕ) → member (perform_book (page_of a) qs calls).state.waiting c ≡ true
      → (k : ℕ) → (operation a (perform a (open_of a qs r).run calls).run (evaluate c)).answer ≢ refused k
  -- with the bound taken the run is at rest
  pub bound_rests : taken (perform a (open_of a qs r).run calls).answers ≡ B
      → status (perform_book (page_of a) qs calls).state ≡ rest
  -- at rest every reached condition holds its plain answer
  pub plain : status (perform_book (page_of a) qs calls).state ≡ rest → (P : Assign) → IsPlain (page_of a) P
      → (c : ℕ) → Reached (page_of a) qs c → book_at (page_of a) qs calls c ≡ P c

-- Demand 3: any accepted opening, then any list of calls
abbrev pub Demand3 : Type 0
Demand3 =
    (a qs r : List ℕ) (R E B k : ℕ) → (open_of a qs r).answer ≡ opened_with R E B k → (calls : List Call)
    → RunKeeps a qs r R E B k calls
