-- Document 02, ticket 9, "Checking the arm simulator": what the check of a list of picks and of figures answers. Assumes nothing.
-- The picks are judged by the book of document 01, which is fed them as evaluations. No run area is lent, and none is spoken of.
use Rattle.std.specs.Prelude.{◌≡◌, ◌≢◌, Bool, true, false, ◌&&◌, List, map, ℕ, ◌+◌, ◌<◌, ltb, length, get_or, take}
use Rattle.std.proofs.Math.Option.{Option, none, some}
use Rattle.fixpoint.specs.Interval.{Assign}
use Rattle.semantics.specs.Page.{Page}
use Rattle.semantics.specs.Table.{member}
use Rattle.semantics.specs.Reading.{IsPlain}
use Rattle.semantics.specs.Area.{page_of}
use Rattle.semantics.specs.Worklist.{Worklist, rest, spent, status}
use Rattle.semantics.specs.Call.{evaluate, first_of}
use Rattle.semantics.specs.Operation.{query_causes, open_of, ends}
use Rattle.semantics.specs.RunArea.{mark_at}
use Rattle.semantics.specs.Demand.{perform, perform_book}

-- the book after the accepted opening with the queries qs and the picks
abbrev pub book_after : Page → (qs picks : List ℕ) → Worklist
book_after page qs picks = (perform_book page qs (map evaluate picks)).state

-- the pick with k picks before it is of a waiting condition: it is a condition, and waits in the book after those before it
unfoldable pub pick_waits : Page → (qs picks : List ℕ) → (k : ℕ) → Bool
pick_waits page qs picks k =
    ltb (get_or picks k 0) page.conditions && member (book_after page qs (take k picks)).waiting (get_or picks k 0)

-- "the picks .. are each of a waiting condition"
abbrev pub AllWait : Page → (qs picks : List ℕ) → Type 0
AllWait page qs picks = (k : ℕ) → k < length picks → pick_waits page qs picks k ≡ true

-- "a pick not waiting or not a condition, with the place of the first such pick, counted from 1"
pub record FirstNotWaiting (page : Page) (qs picks : List ℕ) (place : ℕ) : Type 0 where
  pub before : ℕ
  pub place_is : place ≡ before + 1
  pub inside : before < length picks
  pub not_waiting : pick_waits page qs picks before ≡ false
  pub others_wait : (k : ℕ) → k < before → pick_waits page qs picks k ≡ true

-- "the figures equal the plain answers": low, high per query, in list order. There is one plain reading: `plain_is`, `plain_one`
pub record PlainFigures (page : Page) (qs figures : List ℕ) : Type 0 where
  pub reading : Assign
  pub is_plain : IsPlain page reading
  pub figures_are : figures ≡ ends reading qs

-- 10, 11 or 12; 50 with the place; 51; 52; or the picks and figures are accepted
pub data PicksAnswer : Type 0 where
  refused_queries : (number : ℕ) → PicksAnswer
  not_waiting : (place : ℕ) → PicksAnswer
  not_at_rest : PicksAnswer
  wrong_figures : PicksAnswer
  accepted_picks : PicksAnswer

-- "10, 11 and 12 come first"; then 50, 51 "not at rest after the last pick" and 52 "figures of the wrong length or value", in that order
abbrev pub PicksAs : Option ℕ → PicksAnswer → Page → (qs picks figures : List ℕ) → Type 0
PicksAs (some k) answer page qs picks figures = answer ≡ refused_queries k
PicksAs none (refused_queries k) page qs picks figures = ⊥
PicksAs none (not_waiting place) page qs picks figures = FirstNotWaiting page qs picks place
PicksAs none not_at_rest page qs picks figures = AllWait page qs picks × (status (book_after page qs picks) ≡ spent)
PicksAs none wrong_figures page qs picks figures =
    AllWait page qs picks × (status (book_after page qs picks) ≡ rest) × (¬ PlainFigures page qs figures)
PicksAs none accepted_picks page qs picks figures =
    AllWait page qs picks × (status (book_after page qs picks) ≡ rest) × PlainFigures page qs figures

-- There is exactly one such answer: `picks_exists`, `picks_one`.
unfoldable pub PicksOf : PicksAnswer → (area qs picks figures : List ℕ) → Type 0
PicksOf answer a qs picks figures = PicksAs (first_of (query_causes a qs)) answer (page_of a) qs picks figures

-- the paper's number of an answer: 0 where the picks are accepted
abbrev pub picks_number : PicksAnswer → ℕ
picks_number (refused_queries k) = k
picks_number (not_waiting place) = 50
picks_number not_at_rest = 51
picks_number wrong_figures = 52
picks_number accepted_picks = 0

-- What a simulator does that works on a run area r of its own: the area after the picks, made by Evaluate from the opening
abbrev pub area_after : (area qs r picks : List ℕ) → List ℕ
area_after a qs r picks = (perform a (open_of a qs r).run (map evaluate picks)).run

-- it "picks only waiting conditions, goes on to rest": what its area then holds is always accepted (`simulator_accepted`), and of the picks
-- that it could make no others are (`accepted_exactly`)
pub record GoesToRest (a qs r picks : List ℕ) : Type 0 where
  pub waiting : (k : ℕ) → k < length picks
      → (get_or picks k 0 < (page_of a).conditions) × (mark_at (area_after a qs r (take k picks)) (get_or picks k 0) ≡ 2)
  pub at_rest : (c : ℕ) → c < (page_of a).conditions → mark_at (area_after a qs r picks) c ≢ 2
