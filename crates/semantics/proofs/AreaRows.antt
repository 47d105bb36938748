-- Worked rows of our own on raw areas: the numbers of every answer and refusal, the order of the causes, and what is left in the areas.
-- One list, one claim (`area_bench`). Assumes nothing.
use mathlib.Core.Path.{◌≡◌}
use mathlib.Core.List.{List, [], ◌∷◌}
use Prim.Native.Nat.{ℕ}
use Rattle.semantics.specs.Worklist.{rest, spent}
use Rattle.semantics.specs.Call.{Call, evaluate, drive, value, line_held, Answer, refused, unchanged, changed, drove, valued, held_by}
use Rattle.semantics.specs.Operation.{Opening, refused_opening, opened_with, open_of, operation, refused_closing, closed_after, ClosedOf}
use Rattle.semantics.proofs.Rows.{interval}

pub data AreaRow : Type 0 where
  -- an opening: its answer, and the run area that it leaves
  opens_on : (area queries run : List ℕ) → Opening → (left : List ℕ) → AreaRow
  -- a call: its answer, and the run area that it leaves
  calls_on : (area run : List ℕ) → Call → Answer → (left : List ℕ) → AreaRow
  -- a closed reading that does its work: its count of rounds, and what it leaves in scratch and answers
  closes_on : (area queries scratch answers : List ℕ) → (rounds : ℕ) → (scratch' answers' : List ℕ) → AreaRow
  -- one that is refused, by its number, and leaves both as they are
  refuses_on : (area queries scratch answers : List ℕ) → (number : ℕ) → AreaRow

abbrev pub HoldsOn : AreaRow → Type 0
HoldsOn (opens_on a qs r o left) = ((open_of a qs r).answer ≡ o) × ((open_of a qs r).run ≡ left)
HoldsOn (calls_on a r c o left) = ((operation a r c).answer ≡ o) × ((operation a r c).run ≡ left)
HoldsOn (closes_on a qs s w k s' w') = ClosedOf (closed_after k) a qs s w s' w'
HoldsOn (refuses_on a qs s w k) = ClosedOf (refused_closing k) a qs s w s w

abbrev pub AllHoldOn : List AreaRow → Type 0
AllHoldOn [] = Unit {0}
AllHoldOn (r ∷ rs) = HoldsOn r × AllHoldOn rs

-- the page of row 1, and the same with a kind 7
unfoldable pub area1 : List ℕ
area1 =
    10 ∷ 2 ∷ 6 ∷ 32
    ∷ 0 ∷ 0
    ∷ 0 ∷ 0 ∷ 2 ∷ 2
    ∷ 1 ∷ 0 ∷ 3 ∷ 3
    ∷ 0 ∷ 1 ∷ 10 ∷ 1 ∷ 3
    ∷ 1 ∷ 1 ∷ 10 ∷ 1 ∷ 1
    ∷ 0 ∷ 6 ∷ 0 ∷ 0
    ∷ 1 ∷ 6 ∷ 1 ∷ 0
    ∷ []

unfoldable pub area_no_kind : List ℕ
area_no_kind = 10 ∷ 2 ∷ 1 ∷ 10 ∷ 0 ∷ 0 ∷ 0 ∷ 8 ∷ 0 ∷ 0 ∷ []

-- G,10,1 F,0,5,5 R,0,10,B,0,0
unfoldable pub area_twice : List ℕ
area_twice = 10 ∷ 1 ∷ 2 ∷ 15 ∷ 0 ∷ 0 ∷ 0 ∷ 5 ∷ 5 ∷ 0 ∷ 4 ∷ 10 ∷ 2 ∷ 0 ∷ 0 ∷ []

-- G,10,2 Q,K,0 F,0,0,4 Q,K,1
unfoldable pub area_asked : List ℕ
area_asked = 10 ∷ 2 ∷ 3 ∷ 18 ∷ 0 ∷ 0 ∷ 0 ∷ 6 ∷ 0 ∷ 0 ∷ 0 ∷ 0 ∷ 0 ∷ 4 ∷ 1 ∷ 6 ∷ 0 ∷ 0 ∷ []

-- weight 5 over grade 5, and a weight of 9 on itself (row 7)
unfoldable pub area_half : List ℕ
area_half = 10 ∷ 2 ∷ 2 ∷ 15 ∷ 0 ∷ 0 ∷ 1 ∷ 0 ∷ 5 ∷ 5 ∷ 0 ∷ 1 ∷ 5 ∷ 1 ∷ 2 ∷ []

unfoldable pub area_nine : List ℕ
area_nine = 10 ∷ 1 ∷ 1 ∷ 10 ∷ 0 ∷ 0 ∷ 1 ∷ 9 ∷ 1 ∷ 0 ∷ []

-- `G,10,3 / R,0,10,M,1 / R,1,10,M,2`
unfoldable pub chain : List ℕ
chain = 10 ∷ 3 ∷ 2 ∷ 17 ∷ 0 ∷ 0 ∷ 0 ∷ 0 ∷ 1 ∷ 10 ∷ 1 ∷ 2 ∷ 1 ∷ 1 ∷ 10 ∷ 1 ∷ 4 ∷ []

-- `G,10,2 / D,0,U / R,1,10,M,0`: a camera that is not fitted, and a rule that asks it
unfoldable pub area_camera : List ℕ
area_camera = 10 ∷ 2 ∷ 2 ∷ 15 ∷ 1 ∷ 0 ∷ 0 ∷ 7 ∷ 0 ∷ 0 ∷ 1 ∷ 1 ∷ 10 ∷ 1 ∷ 0 ∷ []

-- `G,10,1 / D,0,U / R,0,10,M,0`, and the same without the D line
unfoldable pub area_doubt : List ℕ
area_doubt = 10 ∷ 1 ∷ 2 ∷ 14 ∷ 1 ∷ 0 ∷ 7 ∷ 0 ∷ 0 ∷ 0 ∷ 1 ∷ 10 ∷ 1 ∷ 0 ∷ []

unfoldable pub area_loop : List ℕ
area_loop = 10 ∷ 1 ∷ 1 ∷ 10 ∷ 0 ∷ 0 ∷ 1 ∷ 10 ∷ 1 ∷ 0 ∷ []

-- D numbers that tell another count of D lines, or two
unfoldable pub area_no_entry : List ℕ
area_no_entry = 10 ∷ 1 ∷ 0 ∷ 5 ∷ 1 ∷ []

unfoldable pub area_no_number : List ℕ
area_no_number = 10 ∷ 1 ∷ 1 ∷ 9 ∷ 0 ∷ 0 ∷ 7 ∷ 0 ∷ 0 ∷ []

unfoldable pub area_two_entries : List ℕ
area_two_entries = 10 ∷ 1 ∷ 2 ∷ 13 ∷ 1 ∷ 0 ∷ 7 ∷ 0 ∷ 0 ∷ 0 ∷ 7 ∷ 0 ∷ 0 ∷ []

unfoldable pub area_number_two : List ℕ
area_number_two = 10 ∷ 1 ∷ 2 ∷ 13 ∷ 2 ∷ 0 ∷ 7 ∷ 0 ∷ 0 ∷ 0 ∷ 7 ∷ 0 ∷ 0 ∷ []

-- seven numbers: the last lies past 3 × C
unfoldable pub opened1 : List ℕ
opened1 = 0 ∷ 10 ∷ 2 ∷ 0 ∷ 10 ∷ 2 ∷ 9 ∷ []

unfoldable pub rested1 : List ℕ
rested1 = 2 ∷ 7 ∷ 1 ∷ 3 ∷ 8 ∷ 1 ∷ 9 ∷ []

unfoldable pub unreached1 : List ℕ
unreached1 = 0 ∷ 10 ∷ 0 ∷ 0 ∷ 10 ∷ 2 ∷ []

unfoldable pub spoilt1 : List ℕ
spoilt1 = 0 ∷ 10 ∷ 2 ∷ 0 ∷ 10 ∷ 3 ∷ []

unfoldable pub many : List ℕ
many = 0 ∷ 0 ∷ 0 ∷ 0 ∷ 0 ∷ 0 ∷ 0 ∷ 0 ∷ 0 ∷ 0 ∷ 0 ∷ 0 ∷ 0 ∷ 0 ∷ 0 ∷ 0 ∷ []

unfoldable pub nines : List ℕ
nines = 9 ∷ 9 ∷ 9 ∷ 9 ∷ 9 ∷ 9 ∷ 9 ∷ []

unfoldable pub ten9s : List ℕ
ten9s = 9 ∷ 9 ∷ 9 ∷ 9 ∷ 9 ∷ 9 ∷ 9 ∷ 9 ∷ 9 ∷ 9 ∷ []

unfoldable pub scratch1 : List ℕ
scratch1 = 9 ∷ 9 ∷ 9 ∷ 9 ∷ 9 ∷ 9 ∷ 9 ∷ 9 ∷ 9 ∷ 9 ∷ 9 ∷ 9 ∷ 9 ∷ []

unfoldable pub area_rows : List AreaRow
area_rows =
    opens_on area1 (0 ∷ []) nines (opened_with 2 2 22 2) opened1
    ∷ opens_on area1 many nines (opened_with 2 2 22 2) opened1
    -- the count of passes: 1 where the queries are all that is reached, R on a chain, also where its lines stand in its order
    ∷ opens_on area1 (0 ∷ 1 ∷ []) nines (opened_with 2 2 22 1) opened1
    ∷ opens_on chain (0 ∷ []) ten9s (opened_with 3 2 23 3) (0 ∷ 10 ∷ 2 ∷ 0 ∷ 10 ∷ 2 ∷ 0 ∷ 10 ∷ 2 ∷ 9 ∷ [])
    ∷ opens_on chain (1 ∷ []) ten9s (opened_with 2 1 12 2) (0 ∷ 10 ∷ 0 ∷ 0 ∷ 10 ∷ 2 ∷ 0 ∷ 10 ∷ 2 ∷ 9 ∷ [])
    ∷ opens_on chain (2 ∷ []) ten9s (opened_with 1 0 1 1) (0 ∷ 10 ∷ 0 ∷ 0 ∷ 10 ∷ 0 ∷ 0 ∷ 10 ∷ 2 ∷ 9 ∷ [])
    ∷ opens_on area_no_kind (0 ∷ []) nines (refused_opening 10) nines
    ∷ opens_on area1 [] nines (refused_opening 11) nines
    ∷ opens_on area1 (0 ∷ many) nines (refused_opening 11) nines
    ∷ opens_on area1 (0 ∷ 2 ∷ []) nines (refused_opening 12) nines
    ∷ opens_on area1 (0 ∷ []) (9 ∷ 9 ∷ 9 ∷ 9 ∷ 9 ∷ []) (refused_opening 13) (9 ∷ 9 ∷ 9 ∷ 9 ∷ 9 ∷ [])
    ∷ calls_on area1 opened1 (evaluate 0) (changed 2) (2 ∷ 10 ∷ 1 ∷ 0 ∷ 10 ∷ 2 ∷ 9 ∷ [])
    ∷ calls_on area1 (2 ∷ 7 ∷ 1 ∷ 3 ∷ 8 ∷ 2 ∷ 9 ∷ []) (evaluate 1) (unchanged 3) rested1
    ∷ calls_on area_no_kind opened1 (evaluate 0) (refused 10) opened1
    ∷ calls_on area1 spoilt1 (evaluate 0) (refused 14) spoilt1
    ∷ calls_on area1 opened1 (evaluate 2) (refused 15) opened1
    ∷ calls_on area1 rested1 (evaluate 0) (refused 16) rested1
    ∷ calls_on area1 opened1 (drive 0) (drove 0 0 spent) opened1
    ∷ calls_on area1 opened1 (drive 3) (drove 3 2 spent) (2 ∷ 7 ∷ 1 ∷ 3 ∷ 8 ∷ 2 ∷ 9 ∷ [])
    ∷ calls_on area1 opened1 (drive 4) (drove 4 3 rest) rested1
    ∷ calls_on area1 opened1 (drive 4294967295) (drove 4 3 rest) rested1
    ∷ calls_on area1 rested1 (drive 0) (drove 0 0 rest) rested1
    ∷ calls_on area_no_kind opened1 (drive 1) (refused 10) opened1
    ∷ calls_on area1 spoilt1 (drive 1) (refused 14) spoilt1
    ∷ calls_on area1 opened1 (value 0) (valued (interval 0 10) spent) opened1
    ∷ calls_on area1 rested1 (value 1) (valued (interval 3 8) rest) rested1
    ∷ calls_on area1 opened1 (value 2) (refused 15) opened1
    ∷ calls_on area1 unreached1 (value 0) (refused 17) unreached1
    ∷ calls_on area1 opened1 (line_held 0) (held_by 2) opened1
    ∷ calls_on area1 rested1 (line_held 1) (held_by 3) rested1
    ∷ calls_on area1 opened1 (line_held 2) (refused 15) opened1
    ∷ calls_on area1 unreached1 (line_held 0) (refused 17) unreached1
    -- the evaluation tells the fact, on the intervals before it; on the intervals then held the rule gives more
    ∷ calls_on area_twice (0 ∷ 10 ∷ 2 ∷ []) (evaluate 0) (changed 2) (5 ∷ 10 ∷ 2 ∷ [])
    ∷ calls_on area_twice (5 ∷ 10 ∷ 2 ∷ []) (line_held 0) (held_by 3) (5 ∷ 10 ∷ 2 ∷ [])
    ∷ calls_on area_twice (0 ∷ 10 ∷ 2 ∷ []) (drive 1) (drove 1 2 spent) (5 ∷ 10 ∷ 2 ∷ [])
    ∷ calls_on area_twice (0 ∷ 10 ∷ 2 ∷ []) (drive 2) (drove 2 3 spent) (10 ∷ 10 ∷ 2 ∷ [])
    -- a Q line counts as a line and holds nothing; a condition without F and R lines has no line
    ∷ calls_on area_asked (0 ∷ 10 ∷ 2 ∷ 0 ∷ 10 ∷ 2 ∷ []) (evaluate 0) (changed 3) (0 ∷ 4 ∷ 1 ∷ 0 ∷ 10 ∷ 2 ∷ [])
    ∷ calls_on area_asked (0 ∷ 10 ∷ 2 ∷ 0 ∷ 10 ∷ 2 ∷ []) (evaluate 1) (changed 0) (0 ∷ 10 ∷ 2 ∷ 0 ∷ 0 ∷ 1 ∷ [])
    ∷ calls_on area_asked (0 ∷ 4 ∷ 1 ∷ 0 ∷ 10 ∷ 2 ∷ []) (drive 9) (drove 1 0 rest) (0 ∷ 4 ∷ 1 ∷ 0 ∷ 0 ∷ 1 ∷ [])
    ∷ calls_on area_asked (0 ∷ 10 ∷ 2 ∷ 0 ∷ 10 ∷ 2 ∷ []) (line_held 1) (held_by 0) (0 ∷ 10 ∷ 2 ∷ 0 ∷ 10 ∷ 2 ∷ [])
    ∷ closes_on area1 (1 ∷ []) scratch1 (9 ∷ 9 ∷ 9 ∷ []) 2 (0 ∷ 0 ∷ 0 ∷ 0 ∷ 0 ∷ 0 ∷ 0 ∷ 0 ∷ 9 ∷ 9 ∷ 9 ∷ 9 ∷ 9 ∷ []) (3 ∷ 8 ∷ 9 ∷ [])
    ∷ closes_on area1 (1 ∷ []) (9 ∷ nines) (9 ∷ 9 ∷ []) 2 (0 ∷ 0 ∷ 0 ∷ 0 ∷ 0 ∷ 0 ∷ 0 ∷ 0 ∷ []) (3 ∷ 8 ∷ [])
    -- a division rounds the low end down and the high end up
    ∷ calls_on area_half opened1 (drive 3) (drove 3 3 rest) (2 ∷ 3 ∷ 1 ∷ 5 ∷ 5 ∷ 1 ∷ 9 ∷ [])
    ∷ calls_on area_nine (0 ∷ 10 ∷ 2 ∷ []) (evaluate 0) (changed 2) (0 ∷ 9 ∷ 2 ∷ [])
    ∷ calls_on area_nine (0 ∷ 9 ∷ 2 ∷ []) (evaluate 0) (unchanged 2) (0 ∷ 9 ∷ 1 ∷ [])
    ∷ closes_on area_half (0 ∷ []) scratch1 (9 ∷ 9 ∷ 9 ∷ []) 2 (0 ∷ 0 ∷ 0 ∷ 0 ∷ 0 ∷ 0 ∷ 0 ∷ 0 ∷ 9 ∷ 9 ∷ 9 ∷ 9 ∷ 9 ∷ []) (2 ∷ 3 ∷ 9 ∷ [])
    ∷ refuses_on area_no_kind (1 ∷ []) scratch1 nines 10
    ∷ refuses_on area1 [] scratch1 nines 11
    ∷ refuses_on area1 (2 ∷ []) scratch1 nines 12
    ∷ refuses_on area1 (1 ∷ []) nines nines 18
    ∷ refuses_on area1 (1 ∷ []) scratch1 (9 ∷ []) 19
    -- a condition that is unknown by default: no line holds its low end; with a rule on itself it stays unknown in the closed reading too
    ∷ opens_on area_camera (1 ∷ []) nines (opened_with 2 1 12 2) opened1
    ∷ calls_on area_camera opened1 (evaluate 0) (unchanged 0) (0 ∷ 10 ∷ 1 ∷ 0 ∷ 10 ∷ 2 ∷ 9 ∷ [])
    ∷ calls_on area_camera opened1 (evaluate 1) (unchanged 3) (0 ∷ 10 ∷ 2 ∷ 0 ∷ 10 ∷ 1 ∷ 9 ∷ [])
    ∷ closes_on area_camera (0 ∷ 1 ∷ []) (9 ∷ nines) (9 ∷ 9 ∷ 9 ∷ 9 ∷ []) 0 (0 ∷ 0 ∷ 0 ∷ 0 ∷ 0 ∷ 0 ∷ 0 ∷ 0 ∷ []) (0 ∷ 10 ∷ 0 ∷ 10 ∷ [])
    ∷ closes_on area_doubt (0 ∷ []) (9 ∷ 9 ∷ 9 ∷ 9 ∷ []) (9 ∷ 9 ∷ []) 0 (0 ∷ 0 ∷ 0 ∷ 0 ∷ []) (0 ∷ 10 ∷ [])
    ∷ closes_on area_loop (0 ∷ []) (9 ∷ 9 ∷ 9 ∷ 9 ∷ []) (9 ∷ 9 ∷ []) 1 (0 ∷ 0 ∷ 0 ∷ 0 ∷ []) (0 ∷ 0 ∷ [])
    ∷ opens_on area_no_entry (0 ∷ []) nines (refused_opening 10) nines
    ∷ opens_on area_no_number (0 ∷ []) nines (refused_opening 10) nines
    ∷ opens_on area_two_entries (0 ∷ []) nines (refused_opening 10) nines
    ∷ opens_on area_number_two (0 ∷ []) nines (refused_opening 10) nines
    -- the order of the causes: of two neighbours that hold at once the first tells
    ∷ opens_on area_no_kind [] nines (refused_opening 10) nines
    ∷ opens_on area1 (2 ∷ many) nines (refused_opening 11) nines
    ∷ opens_on area1 (2 ∷ []) [] (refused_opening 12) []
    ∷ calls_on area_no_kind spoilt1 (evaluate 0) (refused 10) spoilt1
    ∷ calls_on area1 spoilt1 (evaluate 2) (refused 14) spoilt1
    ∷ calls_on area1 rested1 (evaluate 2) (refused 15) rested1
    ∷ calls_on area_no_kind spoilt1 (drive 1) (refused 10) spoilt1
    ∷ calls_on area_no_kind spoilt1 (value 0) (refused 10) spoilt1
    ∷ calls_on area1 spoilt1 (value 2) (refused 14) spoilt1
    ∷ calls_on area1 unreached1 (value 2) (refused 15) unreached1
    ∷ calls_on area_no_kind spoilt1 (line_held 0) (refused 10) spoilt1
    ∷ calls_on area1 spoilt1 (line_held 2) (refused 14) spoilt1
    ∷ calls_on area1 unreached1 (line_held 2) (refused 15) unreached1
    ∷ refuses_on area_no_kind [] scratch1 nines 10
    ∷ refuses_on area1 (2 ∷ many) scratch1 nines 11
    ∷ refuses_on area1 (2 ∷ []) nines nines 12
    ∷ refuses_on area1 (1 ∷ []) nines [] 18
    ∷ []
