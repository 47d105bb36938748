-- What a C function returns, and what it leaves in its out-parameters: document 01's answers as numbers. Assumes nothing.
use Rattle.std.specs.Prelude.{List, ◌≡◌, ℕ, ℤ, pos, neg_ℤ}
use Rattle.fixpoint.specs.Interval.{Interval}
use Rattle.semantics.specs.Call.{Answer, refused, unchanged, changed, drove, valued, held_by}
use Rattle.semantics.specs.Followers.{FollowersAnswer, refused_followers, followed_by, FollowersOf}
use Rattle.semantics.specs.Layers.{LayersAnswer, refused_layers, loops_at, layered, LayersOf}
use Rattle.semantics.specs.Operation.{Opening, refused_opening, opened_with, Closing, refused_closing, closed_after, ClosedOf}
use Rattle.semantics.specs.Picks.{PicksAnswer, refused_queries, not_waiting, not_at_rest, wrong_figures, accepted_picks, picks_number, PicksOf}
use Rattle.semantics.specs.ReadPage.{ReadAnswer, refused_page, read_page}
use Rattle.semantics.specs.Stalls.{Told, TurnAnswer, refused_turn, turned}
use Rattle.semantics.specs.SmallPages.{SmallAnswer, refused_small, wrote_small}
use Rattle.semantics.specs.Season.{SeasonAnswer, refused_season, season, Figures}
use Rattle.semantics.specs.Worklist.{Status, rest, spent}

-- "minus the refusal number"
abbrev pub minus : ℕ → ℤ
minus k = neg_ℤ (pos k)

-- 1 for `rest`, 0 for `spent` or not at rest
abbrev pub status_code : Status → ℤ
status_code rest = pos 1
status_code spent = pos 0

-- evaluate, drive, value and line held: "minus the refusal number, 0 unchanged, 1 changed"; the line. What evaluate and drive tell of a line is
-- not in the code.
abbrev pub answer_code : Answer → ℤ
answer_code (refused k) = minus k
answer_code (unchanged line) = pos 0
answer_code (changed line) = pos 1
answer_code (drove taken line s) = status_code s
answer_code (valued p s) = status_code s
answer_code (held_by line) = pos line

-- What drive leaves in `taken` and `line`, and value in `low` and `high`; any other answer leaves what was there.
abbrev pub taken_or : ℕ → Answer → ℕ
taken_or old (refused k) = old
taken_or old (unchanged line) = old
taken_or old (changed line) = old
taken_or old (drove taken line s) = taken
taken_or old (valued p s) = old
taken_or old (held_by line) = old

abbrev pub line_or : ℕ → Answer → ℕ
line_or old (refused k) = old
line_or old (unchanged line) = old
line_or old (changed line) = old
line_or old (drove taken line s) = line
line_or old (valued p s) = old
line_or old (held_by line) = old

abbrev pub interval_or : Interval → Answer → Interval
interval_or old (refused k) = old
interval_or old (unchanged line) = old
interval_or old (changed line) = old
interval_or old (drove taken line s) = old
interval_or old (valued p s) = p
interval_or old (held_by line) = old

-- open: minus the refusal number, or 0
abbrev pub open_code : Opening → ℤ
open_code (refused_opening k) = minus k
open_code (opened_with R E bound passes) = pos 0

-- "Returns R, E and R + top × E", and the count of passes; a refusal leaves what was there
pub record Counts : Type 0 where
  pub reached : ℕ
  pub edges : ℕ
  pub bound : ℕ
  pub passes : ℕ

abbrev pub counts_or : Counts → Opening → Counts
counts_or old (refused_opening k) = old
counts_or old (opened_with R E bound passes) = record { reached = R; edges = E; bound = bound; passes = passes }

-- read: minus the refusal number, or the used length
abbrev pub read_code : ReadAnswer → ℤ
read_code (refused_page number line place) = minus number
read_code (read_page used) = pos used

-- the line of a refusal, "For 1, 2 and 6 the line is 0"; 0 for a page that is read
abbrev pub line_told : ReadAnswer → ℕ
line_told (refused_page number line place) = line
line_told (read_page used) = 0

-- the place of the field that a refusal tells of, "For every other refusal the place is 0"; 0 for a page that is read
abbrev pub place_told : ReadAnswer → ℕ
place_told (refused_page number line place) = place
place_told (read_page used) = 0

-- closed reading: minus the refusal number, or 0
abbrev pub closed_code : Closing → ℤ
closed_code (refused_closing k) = minus k
closed_code (closed_after rounds) = pos 0

-- "The closed reading also returns its count of rounds"; a refusal leaves what was there
abbrev pub rounds_or : ℕ → Closing → ℕ
rounds_or old (refused_closing k) = old
rounds_or old (closed_after rounds) = rounds

-- what the closed reading returns, tells and leaves. There is one such answer and content of both slices: `closed_call_one`.
pub record ClosedCall (code : ℤ) (rounds rounds' : ℕ) (area queries scratch answers scratch' answers' : List ℕ) : Type 0 where
  pub answer : Closing
  pub is : ClosedOf answer area queries scratch answers scratch' answers'
  pub code_is : code ≡ closed_code answer
  pub rounds_is : rounds' ≡ rounds_or rounds answer

-- layers: minus the refusal number, or 0 where the layers are written
abbrev pub layers_code : LayersAnswer → ℤ
layers_code (refused_layers k) = minus k
layers_code (loops_at c) = minus 30
layers_code layered = pos 0

-- "the lowest such condition is returned": the condition of 30, and 0 where there is nothing to tell
abbrev pub condition_told : LayersAnswer → ℕ
condition_told (refused_layers k) = 0
condition_told (loops_at c) = c
condition_told layered = 0

-- what the check returns, tells and leaves. There is one such answer and slice: `check_one`.
pub record LayersCall (code : ℤ) (condition : ℕ) (area slice slice' : List ℕ) : Type 0 where
  pub answer : LayersAnswer
  pub is : LayersOf answer area slice slice'
  pub code_is : code ≡ layers_code answer
  pub condition_is : condition ≡ condition_told answer

-- the check of picks: minus the refusal number, or 0 where the picks and figures are accepted
abbrev pub picks_code : PicksAnswer → ℤ
picks_code r = minus (picks_number r)

-- "the place of the first such pick, counted from 1": the place of 50, and 0 where there is nothing to tell
abbrev pub pick_told : PicksAnswer → ℕ
pick_told (refused_queries k) = 0
pick_told (not_waiting place) = place
pick_told not_at_rest = 0
pick_told wrong_figures = 0
pick_told accepted_picks = 0

-- what the check of picks returns and tells. There is one such answer: `picks_one`.
pub record PicksCall (code : ℤ) (place : ℕ) (area qs picks figures : List ℕ) : Type 0 where
  pub answer : PicksAnswer
  pub is : PicksOf answer area qs picks figures
  pub code_is : code ≡ picks_code answer
  pub place_is : place ≡ pick_told answer

-- a turn: minus the refusal number, or 0
abbrev pub turn_code : TurnAnswer → ℤ
turn_code (refused_turn k stall) = minus k
turn_code (turned x y) = pos 0

-- the stall of 14, and 0 where there is nothing to tell
abbrev pub stall_told : TurnAnswer → ℕ
stall_told (refused_turn k stall) = stall
stall_told (turned x y) = 0

-- "for each stall the count taken and whether it rests", 1 or 0; a refusal leaves what was there
pub record StallTold : Type 0 where
  pub taken : ℕ
  pub rest : ℕ

abbrev pub rest_told : Status → ℕ
rest_told rest = 1
rest_told spent = 0

abbrev pub stall_as : Told → StallTold
stall_as t = record { taken = t.count; rest = rest_told t.rests }

abbrev pub first_or : StallTold → TurnAnswer → StallTold
first_or old (refused_turn k stall) = old
first_or old (turned x y) = stall_as x

abbrev pub second_or : StallTold → TurnAnswer → StallTold
second_or old (refused_turn k stall) = old
second_or old (turned x y) = stall_as y

-- followers: minus the refusal number, or the count
abbrev pub followers_code : FollowersAnswer → ℤ
followers_code (refused_followers k) = minus k
followers_code (followed_by k) = pos k

-- what the call returns. There is one such answer: `followers_one`.
pub record FollowersCall (code : ℤ) (area : List ℕ) (condition : ℕ) : Type 0 where
  pub answer : FollowersAnswer
  pub is : FollowersOf answer area condition
  pub code_is : code ≡ followers_code answer

-- small page: minus the refusal number, or the text's length
abbrev pub small_code : SmallAnswer → ℤ
small_code (refused_small k) = minus k
small_code (wrote_small n) = pos n

-- season: minus the refusal number, or 0
abbrev pub season_code : SeasonAnswer → ℤ
season_code (refused_season number place) = minus number
season_code (season f) = pos 0

-- "the place of the first such pair, counted from 1"; 0 where there is nothing to tell
abbrev pub pair_told : SeasonAnswer → ℕ
pair_told (refused_season number place) = place
pair_told (season f) = 0

-- the figures; a refusal leaves what was there
abbrev pub figures_or : Figures → SeasonAnswer → Figures
figures_or old (refused_season number place) = old
figures_or old (season f) = f
