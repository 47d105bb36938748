-- Document 02, ticket 11: "Demand 3, its bound included, holds for each stall's own part alone, whatever is written to the other part."
-- One statement. Assumes nothing.
use Rattle.std.specs.Prelude.{◌≡◌, ◌≢◌, Bool, true, false, cond, List, [], ◌∷◌, ◌++◌, ℕ, ◌+◌, ◌≤◌, leb, length}
use Rattle.semantics.specs.Page.{Page}
use Rattle.semantics.specs.Table.{member}
use Rattle.semantics.specs.Reading.{closure}
use Rattle.semantics.specs.Area.{page_of}
use Rattle.semantics.specs.RunArea.{run_of, run_sound}
use Rattle.semantics.specs.Worklist.{Worklist, start, rest, status, driven}
use Rattle.semantics.specs.Call.{Call, evaluate, drive, Answer, refused, outcome, taken_by}
use Rattle.semantics.specs.Operation.{opened_with, operation}
use Rattle.semantics.specs.Demand.{perform_from, perform_book, RunKeeps}
use Rattle.semantics.specs.Stalls.{Stall, other, of_stall, number_of, need, need_of, share, shared_length, part_of, with_part, open_stall, evaluate_stall, Told, told_by, TurnAnswer, refused_turn, turned, turn_of}

-- What may happen between two looks at one stall's part: Evaluate of this stall, lent the shared area; Evaluate, Drive, Value or Line held, lent
-- this part; a turn, accepted or refused; and anything whatever written to the rest of the area, as an area x of at least 6 × C numbers has it there
pub data Step : Type 0 where
  evaluates : (condition : ℕ) → Step
  alone : Call → Step
  turn : (allowance : ℕ) → Step
  elsewhere : (x : List ℕ) → Step

-- what a stall is answered: by a call, or by an accepted turn
pub data StallAnswer : Type 0 where
  by_call : Answer → StallAnswer
  by_turn : Told → StallAnswer

-- a refused turn tells a stall nothing
abbrev pub told : Stall → TurnAnswer → List StallAnswer
told s (refused_turn k stall) = []
told s (turned x y) = by_turn (of_stall s x y) ∷ []

abbrev pub written : Page → Stall → List ℕ → List ℕ → List ℕ
written page s area x = cond (leb (shared_length page) (length x)) (with_part page s x (part_of page s area)) area

-- steps on areas: what the stall is answered, and the shared area after them
pub record Stepped : Type 0 where
  pub answers : List StallAnswer
  pub area : List ℕ

abbrev pub step_of : List ℕ → Stall → List ℕ → Step → Stepped
step_of a s area (evaluates c) = let l = evaluate_stall a s area c in record { answers = by_call l.answer ∷ []; area = l.run }
step_of a s area (alone c) =
    let l = operation a (part_of (page_of a) s area) c in
    record { answers = by_call l.answer ∷ []; area = with_part (page_of a) s area l.run }
step_of a s area (turn b) = let t = turn_of a area b in record { answers = told s t.answer; area = t.area }
step_of a s area (elsewhere x) = record { answers = []; area = written (page_of a) s area x }

unfoldable pub perform_steps : List ℕ → Stall → List ℕ → List Step → Stepped
perform_steps a s area [] = record { answers = []; area = area }
perform_steps a s area (st ∷ sts) =
    let o = step_of a s area st in
    let l = perform_steps a s o.area sts in
    record { answers = o.answers ++ l.answers; area = l.area }

-- the evaluations that the answers tell of
abbrev pub evaluations_by : StallAnswer → ℕ
evaluations_by (by_call x) = taken_by x
evaluations_by (by_turn t) = t.count

unfoldable pub evaluations_in : List StallAnswer → ℕ
evaluations_in [] = 0
evaluations_in (x ∷ more) = evaluations_by x + evaluations_in more

-- Steps in the stall's own book: the calls that they stand for, and what the stall is answered
pub record Booked : Type 0 where
  pub calls : List Call
  pub answers : List StallAnswer

-- One step, where w is the book, m the set of the reached conditions, and others the other stall's part before the step.
abbrev pub book_call : Page → List Bool → Worklist → Call → Booked
book_call page m w c = record { calls = c ∷ []; answers = by_call (outcome page m w c).answer ∷ [] }

-- "an accepted turn stands as a drive allowed what this split gives that stall, and its count and rest for that stall are that drive's"
abbrev pub book_drive : Page → List Bool → Worklist → (allowance : ℕ) → Booked
book_drive page m w k = record { calls = drive k ∷ []; answers = by_turn (told_by (driven page m k w)) ∷ [] }

abbrev pub no_call : Booked
no_call = record { calls = []; answers = [] }

-- "The split is reckoned from b, the need in the stall's own book and the other stall's need before the turn"; "A refused turn leaves the book
-- as it is."
unfoldable pub book_step : Page → List Bool → Stall → Worklist → (others : List ℕ) → Step → Booked
book_step page m s w others (evaluates c) = book_call page m w (evaluate c)
book_step page m s w others (alone c) = book_call page m w c
book_step page m s w others (turn b) = cond (run_sound page others) (book_drive page m w (share b s (need page m w b) (need_of page others b))) no_call
book_step page m s w others (elsewhere x) = no_call

-- A list of steps: of the shared area only the other stall's part is looked at
unfoldable pub book_from : List ℕ → List Bool → Stall → Worklist → List ℕ → List Step → Booked
book_from a m s w area [] = no_call
book_from a m s w area (st ∷ sts) =
    let o = book_step (page_of a) m s w (part_of (page_of a) (other s) area) st in
    let l = book_from a m s (perform_from (page_of a) m w o.calls).state (step_of a s area st).area sts in
    record { calls = o.calls ++ l.calls; answers = o.answers ++ l.answers }

-- from the accepted opening of the stall with the queries qs on
abbrev pub steps_of : List ℕ → Stall → List ℕ → List ℕ → List Step → Stepped
steps_of a s qs area steps = perform_steps a s (open_stall a s qs area).run steps

abbrev pub booked_of : List ℕ → Stall → List ℕ → List ℕ → List Step → Booked
booked_of a s qs area steps = book_from a (closure (page_of a) qs) s (start (page_of a) (closure (page_of a) qs)) (open_stall a s qs area).run steps

abbrev pub book_of : List ℕ → Stall → List ℕ → List ℕ → List Step → Worklist
book_of a s qs area steps = (perform_book (page_of a) qs (booked_of a s qs area steps).calls).state

-- What holds after the steps, for an opening of the stall s that returned R, E, B and the count of passes k:
pub record StallKeeps (a : List ℕ) (s : Stall) (qs area : List ℕ) (R E B k : ℕ) (steps : List Step) : Type 0 where
  -- demand 3 on the stall's part alone, for the calls that the steps stand for
  pub alone_keeps : RunKeeps a qs (part_of (page_of a) s area) R E B k (booked_of a s qs area steps).calls
  -- and on the shared area: the stall's part is the book's, and its answers are the book's
  pub part : part_of (page_of a) s (steps_of a s qs area steps).area ≡ run_of (page_of a) (closure (page_of a) qs) (book_of a s qs area steps)
  pub answers : (steps_of a s qs area steps).answers ≡ (booked_of a s qs area steps).answers
  -- the evaluations taken, by the answers given, are at most R + top × E, and with the bound taken the stall rests
  pub in_time : evaluations_in (steps_of a s qs area steps).answers ≤ B
  pub bound_rests : evaluations_in (steps_of a s qs area steps).answers ≡ B → status (book_of a s qs area steps) ≡ rest
  -- the evaluation of a waiting condition is accepted
  pub accepted : (c : ℕ) → member (book_of a s qs area steps).waiting c ≡ true
      → (j : ℕ) → (evaluate_stall a s (steps_of a s qs area steps).area c).answer ≢ refused j
  -- a turn is refused only for the other stall, exactly if that one's part is not sound
  pub refusals : (b : ℕ) → run_sound (page_of a) (part_of (page_of a) (other s) (steps_of a s qs area steps).area) ≡ false
      → (turn_of a (steps_of a s qs area steps).area b).answer ≡ refused_turn 14 (number_of (other s))
  pub turns : (b : ℕ) → run_sound (page_of a) (part_of (page_of a) (other s) (steps_of a s qs area steps).area) ≡ true
      → (x : Told) × (y : Told) × ((turn_of a (steps_of a s qs area steps).area b).answer ≡ turned x y)

-- any accepted opening of either stall, then any list of steps
abbrev pub StallDemand3 : Type 0
StallDemand3 =
    (a : List ℕ) (s : Stall) (qs area : List ℕ) (R E B k : ℕ) → (open_stall a s qs area).answer ≡ opened_with R E B k → (steps : List Step)
    → StallKeeps a s qs area R E B k steps
