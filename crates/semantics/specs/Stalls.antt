-- Document 02, ticket 11, "Two stalls on one page": the shared area, opening and evaluating one stall, and a turn of b evaluations.
-- Assumes nothing.
use Rattle.std.specs.Prelude.{◌≡◌, Bool, not, List, [], ◌∷◌, ◌++◌, ℕ, ◌+◌, ◌-◌, ◌*◌, ◌/◌, ◌≤◌, min, leb, length, take, drop}
use Rattle.std.proofs.Math.Option.{Option, none, some}
use Rattle.semantics.specs.Page.{Page}
use Rattle.semantics.specs.Area.{sound, page_of}
use Rattle.semantics.specs.RunArea.{worklist_of, reached_of, run_sound}
use Rattle.semantics.specs.Worklist.{Worklist, Status, rest, spent, status, Driven, driven}
use Rattle.semantics.specs.Call.{evaluate, Answer, refused, drove, Cause, cause, first_of}
use Rattle.semantics.specs.Operation.{Opened, refused_opening, open_of, Left, operation, drive_of}

pub data Stall : Type 0 where
  first second : Stall

abbrev pub other : Stall → Stall
other first = second
other second = first

-- x for the first stall, y for the second
abbrev pub of_stall : {A : Type 0} → Stall → (x y : A) → A
of_stall first x y = x
of_stall second x y = y

-- "told with the stall, 1 or 2"
abbrev pub number_of : Stall → ℕ
number_of s = of_stall s 1 2

-- "one lent area of 6 × C numbers": two runs
abbrev pub run_length : Page → ℕ
run_length page = 3 * page.conditions

abbrev pub shared_length : Page → ℕ
shared_length page = 6 * page.conditions

-- "The second stall's run begins at 3 × C"
abbrev pub beginning : Page → Stall → ℕ
beginning page s = of_stall s 0 (run_length page)

-- a stall's own part
unfoldable pub part_of : Page → Stall → List ℕ → List ℕ
part_of page s area = take (run_length page) (drop (beginning page s) area)

-- the area with p for that part
unfoldable pub with_part : Page → Stall → List ℕ → List ℕ → List ℕ
with_part page s area p = take (beginning page s) area ++ (p ++ drop (beginning page s + run_length page) area)

-- 10 page area not sound; "60, the shared area is shorter than 6 × C, right after 10 in each call lent it"
abbrev pub shared_causes : List ℕ → List ℕ → List Cause
shared_causes a area = cause (not (sound a)) 10 ∷ cause (not (leb (shared_length (page_of a)) (length area))) 60 ∷ []

-- "Opening or evaluating one stall takes the shared area and, past 60, refuses and works as on that stall's part alone."
abbrev pub open_stall_as : Option ℕ → Page → Stall → List ℕ → Opened → Opened
open_stall_as (some k) page s area o = record { answer = refused_opening k; run = area }
open_stall_as none page s area o = record { answer = o.answer; run = with_part page s area o.run }

unfoldable pub open_stall : List ℕ → Stall → List ℕ → List ℕ → Opened
open_stall a s qs area = open_stall_as (first_of (shared_causes a area)) (page_of a) s area (open_of a qs (part_of (page_of a) s area))

abbrev pub evaluate_stall_as : Option ℕ → Page → Stall → List ℕ → Left → Left
evaluate_stall_as (some k) page s area l = record { answer = refused k; run = area }
evaluate_stall_as none page s area l = record { answer = l.answer; run = with_part page s area l.run }

unfoldable pub evaluate_stall : List ℕ → Stall → List ℕ → ℕ → Left
evaluate_stall a s area c =
    evaluate_stall_as (first_of (shared_causes a area)) (page_of a) s area (operation a (part_of (page_of a) s area) (evaluate c))

-- "a stall that would not rest within b counts as needing b"
abbrev pub need_as : Status → ℕ → ℕ → ℕ
need_as rest taken b = taken
need_as spent taken b = b

-- the evaluations that a state takes before its rest, picked "as Drive does", where m is the set of the reached conditions
unfoldable pub need : Page → List Bool → Worklist → ℕ → ℕ
need page m w b = need_as (status (driven page m b w).state) (driven page m b w).taken b

-- of the state that a run area holds
abbrev pub need_of : Page → List ℕ → ℕ → ℕ
need_of page r b = need page (reached_of page r) (worklist_of page r) b

-- "the first stall has the larger half, the second the smaller"
unfoldable pub half : ℕ → Stall → ℕ
half b s = of_stall s (b - b / 2) (b / 2)

-- the halves make b, and the first stall's is larger by at most 1
pub record Halves (b : ℕ) : Type 0 where
  pub whole : half b first + half b second ≡ b
  pub larger : half b second ≤ half b first
  pub nearly : half b first ≤ half b second + 1

-- "what one stall does not need before its rest goes to the other": what it needs of its half, and what the other leaves of its own
unfoldable pub share : ℕ → Stall → (own others : ℕ) → ℕ
share b s own others = min (half b s) own + (half b (other s) - others)

-- what the split of b gives a stall
abbrev pub share_of : Page → Stall → List ℕ → ℕ → ℕ
share_of page s area b = share b s (need_of page (part_of page s area) b) (need_of page (part_of page (other s) area) b)

-- "for each stall the count taken and whether it rests"
pub record Told : Type 0 where
  pub count : ℕ
  pub rests : Status

-- of a drive
abbrev pub told_by : Driven → Told
told_by d = record { count = d.taken; rests = status d.state }

-- a refusal's number, and the stall that it is told with, 0 for none; or what the first stall and the second are told
pub data TurnAnswer : Type 0 where
  refused_turn : (number stall : ℕ) → TurnAnswer
  turned : (one two : Told) → TurnAnswer

pub record Turn : Type 0 where
  pub answer : TurnAnswer
  pub area : List ℕ

-- a drive of a stall's part, allowed what the split gives it: what it takes, and what it leaves of the part
abbrev pub turn_told : Page → Stall → List ℕ → ℕ → Told
turn_told page s area b = let r = part_of page s area in told_by (driven page (reached_of page r) (share_of page s area b) (worklist_of page r))

abbrev pub turn_part : List ℕ → Stall → List ℕ → ℕ → Left
turn_part a s area b = drive_of a (part_of (page_of a) s area) (share_of (page_of a) s area b)

-- the stall whose part is not sound, "the first stall before the second"
abbrev pub unsound_stall : Page → List ℕ → Option ℕ
unsound_stall page area =
    first_of (cause (not (run_sound page (part_of page first area))) (number_of first) ∷ cause (not (run_sound page (part_of page second area))) (number_of second) ∷ [])

-- 10, 60, "then 14, told with the stall"
abbrev pub turn_as : Option ℕ → Option ℕ → List ℕ → Turn → Turn
turn_as (some k) o area t = record { answer = refused_turn k 0; area = area }
turn_as none (some stall) area t = record { answer = refused_turn 14 stall; area = area }
turn_as none none area t = t

-- what lies past 6 × C stays
unfoldable pub turn_of : List ℕ → List ℕ → ℕ → Turn
turn_of a area b =
    turn_as (first_of (shared_causes a area)) (unsound_stall (page_of a) area) area
    (record {
      answer = turned (turn_told (page_of a) first area b) (turn_told (page_of a) second area b);
      area = (turn_part a first area b).run ++ ((turn_part a second area b).run ++ drop (shared_length (page_of a)) area);
    })

-- an answer is that of a drive which takes so many evaluations and then rests or not; the line that it tells is not a turn's
pub record DroveAs (t : Told) (x : Answer) : Type 0 where
  pub line : ℕ
  pub answer_is : x ≡ drove t.count line t.rests

-- What holds of a turn that told the first stall x and the second y:
pub record TurnKeeps (a area : List ℕ) (b : ℕ) (x y : Told) : Type 0 where
  -- "together they take b, or both needs if these sum to less"
  pub together : x.count + y.count ≡ min b (need_of (page_of a) (part_of (page_of a) first area) b + need_of (page_of a) (part_of (page_of a) second area) b)
  -- "Each stall gets at least its half or its need."
  pub least : (s : Stall) → min (half b s) (need_of (page_of a) (part_of (page_of a) s area) b) ≤ (of_stall s x y).count
  -- what a stall is told and its part are those of Drive on its own part, allowed its share
  pub tells : (s : Stall) → DroveAs (of_stall s x y) (turn_part a s area b).answer
  pub leaves : (s : Stall) → part_of (page_of a) s (turn_of a area b).area ≡ (turn_part a s area b).run
  -- what lies past 6 × C stays
  pub past : drop (shared_length (page_of a)) (turn_of a area b).area ≡ drop (shared_length (page_of a)) area
  pub as_long : length (turn_of a area b).area ≡ length area
