-- Document 01, "Operations and their refusals", on areas: what each call answers, and what it leaves in every lent slice.
-- Assumes nothing.
use Rattle.std.specs.Prelude.{Bool, not, cond, ◌&&◌, List, [], ◌∷◌, ◌++◌, ◌≡◌, ℕ, zero, suc, ◌+◌, ◌-◌, ◌*◌, leb, length, drop}
use Rattle.std.proofs.Math.Option.{Option, none, some}
use Rattle.fixpoint.specs.Interval.{Assign}
use Rattle.semantics.specs.Page.{Page}
use Rattle.semantics.specs.Area.{sound, page_of, first_line, conditions_of, count_of, used_of, all_under}
use Rattle.semantics.specs.Reading.{IsClosed, closure, pass_count, count_r, count_e, bound}
use Rattle.semantics.specs.Rounds.{IsRounds}
use Rattle.semantics.specs.Worklist.{start}
use Rattle.semantics.specs.RunArea.{run_of, worklist_of, reached_of, run_sound}
use Rattle.semantics.specs.Call.{Call, evaluate, drive, value, line_held, Answer, refused, Cause, cause, first_of, Outcome, outcome}

-- Open a run: a refusal's number, or R, E, R + top × E and the count of passes
pub data Opening : Type 0 where
  refused_opening : ℕ → Opening
  opened_with : (R E bound passes : ℕ) → Opening

-- 10 page area not sound; 11 fewer than 1 or more than 16 queries; 12 a query is C or more
abbrev pub query_causes : List ℕ → List ℕ → List Cause
query_causes a qs =
    cause (not (sound a)) 10
    ∷ cause (not (leb 1 (length qs) && leb (length qs) 16)) 11
    ∷ cause (not (all_under (page_of a).conditions qs)) 12
    ∷ []

-- .. and 13 the run area is shorter than 3 × C
abbrev pub open_causes : List ℕ → List ℕ → List ℕ → List Cause
open_causes a qs r = query_causes a qs ++ (cause (not (leb (3 * (page_of a).conditions) (length r))) 13 ∷ [])

pub record Opened : Type 0 where
  pub answer : Opening
  pub run : List ℕ

-- where m is the set of the reached conditions and k the count of passes
abbrev pub open_as : Option ℕ → Page → List Bool → ℕ → List ℕ → Opened
open_as (some c) page m k r = record { answer = refused_opening c; run = r }
open_as none page m k r =
    record {
      answer = opened_with (count_r page m) (count_e page m) (bound page m) k;
      run = run_of page m (start page m) ++ drop (3 * page.conditions) r;
    }

-- "the closure of the queries is then marked 2, and every condition holds [0;top]"; what lies past 3 × C stays
unfoldable pub open_of : List ℕ → List ℕ → List ℕ → Opened
open_of a qs r = open_as (first_of (open_causes a qs r)) (page_of a) (closure (page_of a) qs) (pass_count (page_of a) qs) r

-- Evaluate, drive, value and line held: an answer, and what the run area then holds. 10 page area not sound; 14 run area too short or not sound
pub record Left : Type 0 where
  pub answer : Answer
  pub run : List ℕ

abbrev pub left_as : Option ℕ → Page → List ℕ → Outcome → Left
left_as (some k) page r o = record { answer = refused k; run = r }
left_as none page r o = record { answer = o.answer; run = run_of page (reached_of page r) o.state ++ drop (3 * page.conditions) r }

-- refusals 10 and 14 of Evaluate, Drive, Value and Line held; the others are among the answers of `outcome`
abbrev pub run_causes : List ℕ → List ℕ → List Cause
run_causes a r = cause (not (sound a)) 10 ∷ cause (not (run_sound (page_of a) r)) 14 ∷ []

unfoldable pub operation : List ℕ → List ℕ → Call → Left
operation a r c =
    left_as (first_of (run_causes a r)) (page_of a) r
    (outcome (page_of a) (reached_of (page_of a) r) (worklist_of (page_of a) r) c)

abbrev pub evaluate_of : List ℕ → List ℕ → ℕ → Left
evaluate_of a r c = operation a r (evaluate c)

abbrev pub drive_of : List ℕ → List ℕ → ℕ → Left
drive_of a r k = operation a r (drive k)

abbrev pub value_of : List ℕ → List ℕ → ℕ → Answer
value_of a r c = (operation a r (value c)).answer

-- the line that holds the low end of T of the intervals held: it may differ from what the last evaluation of c told
abbrev pub line_held_of : List ℕ → List ℕ → ℕ → Answer
line_held_of a r c = (operation a r (line_held c)).answer

-- A workspace: numbers lent for an index of the page, which makes a drive and the closed reading fast and changes no answer. The index
-- takes C + 1 numbers and one for each line, then 2 × C + 1 and one for each literal.
abbrev pub index_length : List ℕ → ℕ
index_length a = (conditions_of a + 1 + count_of a) + (2 * conditions_of a + 1 + (used_of a - (first_line a + 4 * count_of a)))

unfoldable pub zeros : ℕ → List ℕ
zeros zero = []
zeros (suc n) = 0 ∷ zeros n

-- What an accepted call leaves in a workspace: zeros where the index stood. One that is too short is not touched.
abbrev pub used_workspace : List ℕ → List ℕ → List ℕ
used_workspace a w = cond (leb (index_length a) (length w)) (zeros (index_length a) ++ drop (index_length a) w) w

-- A refusal leaves it as it is.
abbrev pub workspace_as : Option ℕ → List ℕ → List ℕ → List ℕ
workspace_as (some k) a w = w
workspace_as none a w = used_workspace a w

-- how many scratch numbers the closed reading takes
abbrev pub scratch_length : Page → ℕ
scratch_length page = 4 * page.conditions

-- Closed reading: 10, 11, 12; 18 scratch shorter than 4 × C; 19 answers shorter than 2 × the list
abbrev pub closed_causes : List ℕ → List ℕ → List ℕ → List ℕ → List Cause
closed_causes a qs scratch answers =
    query_causes a qs
    ++ (cause (not (leb (scratch_length (page_of a)) (length scratch))) 18
    ∷ cause (not (leb (2 * length qs) (length answers))) 19
    ∷ [])

-- The workspaces of the two operations that take one.
unfoldable pub drive_workspace : List ℕ → List ℕ → List ℕ → List ℕ
drive_workspace a r w = workspace_as (first_of (run_causes a r)) a w

unfoldable pub closed_workspace : List ℕ → List ℕ → List ℕ → List ℕ → List ℕ → List ℕ
closed_workspace a qs scratch answers w = workspace_as (first_of (closed_causes a qs scratch answers)) a w

-- "low, high per query in list order"
abbrev pub ends : Assign → List ℕ → List ℕ
ends C [] = []
ends C (q ∷ qs) = (C q).low ∷ (C q).high ∷ ends C qs

-- Closed reading: a refusal's number, or the count of rounds where the call did its work
pub data Closing : Type 0 where
  refused_closing : ℕ → Closing
  closed_after : (rounds : ℕ) → Closing

-- What an accepted call answers and leaves: the page has a closed reading, and these are its answers; the queries have a count of rounds, and it is told.
-- (There is exactly one of each: `closed_one`, `rounds_one`.)
pub record ClosedAnswers (answer : Closing) (a qs scratch answers scratch' answers' : List ℕ) : Type 0 where
  pub reading : Assign
  pub is_closed : IsClosed (page_of a) reading
  pub rounds : ℕ
  pub is_rounds : IsRounds (page_of a) qs rounds
  pub told : answer ≡ closed_after rounds
  pub written : answers' ≡ ends reading qs ++ drop (2 * length qs) answers
  pub cleared : scratch' ≡ zeros (scratch_length (page_of a)) ++ drop (scratch_length (page_of a)) scratch

-- A refusal leaves both slices as they are.
abbrev pub ClosedAs : Option ℕ → (answer : Closing) → (a qs scratch answers scratch' answers' : List ℕ) → Type 0
ClosedAs (some k) answer a qs scratch answers scratch' answers' = (answer ≡ refused_closing k) × (scratch' ≡ scratch) × (answers' ≡ answers)
ClosedAs none answer a qs scratch answers scratch' answers' = ClosedAnswers answer a qs scratch answers scratch' answers'

unfoldable pub ClosedOf : (answer : Closing) → (a qs scratch answers scratch' answers' : List ℕ) → Type 0
ClosedOf answer a qs scratch answers scratch' answers' =
    ClosedAs (first_of (closed_causes a qs scratch answers)) answer a qs scratch answers scratch' answers'
