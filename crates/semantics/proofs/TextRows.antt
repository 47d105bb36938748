-- Worked rows of our own on texts, in literal bytes: what reading answers and leaves in the area, and what showing a line hands back. One
-- list, one claim (`text_bench`). For each refusal its nearest neighbour that is accepted, and the order
-- of the causes; each range fault at each field that it can stand at, with its place; D lines; rows 9 to 12 of the bench figures.
-- Assumes nothing.
use mathlib.Core.Path.{◌≡◌}
use mathlib.Core.List.{List, [], ◌∷◌, ◌++◌}
use Prim.Native.Nat.{ℕ, zero, suc}
use lib.ListN.{replicate}
use Rattle.semantics.specs.ReadPage.{ReadAnswer, refused_page, read_page, read_of, line_of, start_of}

pub data TextRow : Type 0 where
  -- reading a text into an area: the answer, and what the area then holds
  reads : (text area : List ℕ) → ReadAnswer → (left : List ℕ) → TextRow
  -- reading alone: the answer, where the area is long
  answers : (text area : List ℕ) → ReadAnswer → TextRow
  -- showing a line: its bytes, and where they begin
  shows : (text : List ℕ) → (number : ℕ) → (line : List ℕ) → (start : ℕ) → TextRow

abbrev pub HoldsIn : TextRow → Type 0
HoldsIn (reads t a o left) = ((read_of t a).answer ≡ o) × ((read_of t a).area ≡ left)
HoldsIn (answers t a o) = (read_of t a).answer ≡ o
HoldsIn (shows t k l s) = (line_of t k ≡ l) × (start_of t k ≡ s)

abbrev pub AllHoldIn : List TextRow → Type 0
AllHoldIn [] = Unit {0}
AllHoldIn (r ∷ rs) = HoldsIn r × AllHoldIn rs

-- `G,1,1\n`
unfoldable pub head : List ℕ
head = 71 ∷ 44 ∷ 49 ∷ 44 ∷ 49 ∷ 10 ∷ []

-- `G,1,1`
unfoldable pub no_end : List ℕ
no_end = 71 ∷ 44 ∷ 49 ∷ 44 ∷ 49 ∷ []

-- `G,10,1\nF,0,3,4\n`
unfoldable pub fact34 : List ℕ
fact34 = 71 ∷ 44 ∷ 49 ∷ 48 ∷ 44 ∷ 49 ∷ 10 ∷ 70 ∷ 44 ∷ 48 ∷ 44 ∷ 51 ∷ 44 ∷ 52 ∷ 10 ∷ []

-- `G,10,1\nF,0,03,4\n`
unfoldable pub zero_first : List ℕ
zero_first = 71 ∷ 44 ∷ 49 ∷ 48 ∷ 44 ∷ 49 ∷ 10 ∷ 70 ∷ 44 ∷ 48 ∷ 44 ∷ 48 ∷ 51 ∷ 44 ∷ 52 ∷ 10 ∷ []

-- `G,10,1\nF,0,4,3\n`
unfoldable pub fact43 : List ℕ
fact43 = 71 ∷ 44 ∷ 49 ∷ 48 ∷ 44 ∷ 49 ∷ 10 ∷ 70 ∷ 44 ∷ 48 ∷ 44 ∷ 52 ∷ 44 ∷ 51 ∷ 10 ∷ []

-- `G,10,1\nF,0,4,4\n`
unfoldable pub fact44 : List ℕ
fact44 = 71 ∷ 44 ∷ 49 ∷ 48 ∷ 44 ∷ 49 ∷ 10 ∷ 70 ∷ 44 ∷ 48 ∷ 44 ∷ 52 ∷ 44 ∷ 52 ∷ 10 ∷ []

-- `G,1,512\nF,511,0,1\n`
unfoldable pub last : List ℕ
last = 71 ∷ 44 ∷ 49 ∷ 44 ∷ 53 ∷ 49 ∷ 50 ∷ 10 ∷ 70 ∷ 44 ∷ 53 ∷ 49 ∷ 49 ∷ 44 ∷ 48 ∷ 44 ∷ 49 ∷ 10 ∷ []

-- `G,1,512\nF,512,0,1\n`
unfoldable pub past : List ℕ
past = 71 ∷ 44 ∷ 49 ∷ 44 ∷ 53 ∷ 49 ∷ 50 ∷ 10 ∷ 70 ∷ 44 ∷ 53 ∷ 49 ∷ 50 ∷ 44 ∷ 48 ∷ 44 ∷ 49 ∷ 10 ∷ []

-- `G,200,1\n`
unfoldable pub top200 : List ℕ
top200 = 71 ∷ 44 ∷ 50 ∷ 48 ∷ 48 ∷ 44 ∷ 49 ∷ 10 ∷ []

-- `G,201,1\n`
unfoldable pub top201 : List ℕ
top201 = 71 ∷ 44 ∷ 50 ∷ 48 ∷ 49 ∷ 44 ∷ 49 ∷ 10 ∷ []

-- `G,1,1\nR,0,1,M,0,0,0,0,0,0,0,!0\n`
unfoldable pub eight : List ℕ
eight = 71 ∷ 44 ∷ 49 ∷ 44 ∷ 49 ∷ 10 ∷ 82 ∷ 44 ∷ 48 ∷ 44 ∷ 49 ∷ 44 ∷ 77 ∷ 44 ∷ 48 ∷ 44 ∷ 48 ∷ 44 ∷ 48 ∷ 44 ∷ 48 ∷ 44 ∷ 48 ∷ 44 ∷ 48 ∷ 44 ∷ 48 ∷ 44 ∷ 33 ∷ 48 ∷ 10 ∷ []

-- `G,1,1\nR,0,1,M,0,0,0,0,0,0,0,0,!0\n`
unfoldable pub nine : List ℕ
nine = 71 ∷ 44 ∷ 49 ∷ 44 ∷ 49 ∷ 10 ∷ 82 ∷ 44 ∷ 48 ∷ 44 ∷ 49 ∷ 44 ∷ 77 ∷ 44 ∷ 48 ∷ 44 ∷ 48 ∷ 44 ∷ 48 ∷ 44 ∷ 48 ∷ 44 ∷ 48 ∷ 44 ∷ 48 ∷ 44 ∷ 48 ∷ 44 ∷ 48 ∷ 44 ∷ 33 ∷ 48 ∷ 10 ∷ []

-- `G,10,2\nF,0,2,2\nF,1,3,3\nR,0,10,M,!1\nR,1,10,M,!0\nQ,K,0\nQ,W,1\n`
unfoldable pub example : List ℕ
example = 71 ∷ 44 ∷ 49 ∷ 48 ∷ 44 ∷ 50 ∷ 10 ∷ 70 ∷ 44 ∷ 48 ∷ 44 ∷ 50 ∷ 44 ∷ 50 ∷ 10 ∷ 70 ∷ 44 ∷ 49 ∷ 44 ∷ 51 ∷ 44 ∷ 51 ∷ 10 ∷ 82 ∷ 44 ∷ 48 ∷ 44 ∷ 49 ∷ 48 ∷ 44 ∷ 77 ∷ 44 ∷ 33 ∷ 49 ∷ 10 ∷ 82 ∷ 44 ∷ 49 ∷ 44 ∷ 49 ∷ 48 ∷ 44 ∷ 77 ∷ 44 ∷ 33 ∷ 48 ∷ 10 ∷ 81 ∷ 44 ∷ 75 ∷ 44 ∷ 48 ∷ 10 ∷ 81 ∷ 44 ∷ 87 ∷ 44 ∷ 49 ∷ 10 ∷ []

-- `Q,K,0\n`
unfoldable pub query : List ℕ
query = 81 ∷ 44 ∷ 75 ∷ 44 ∷ 48 ∷ 10 ∷ []

-- `G,1000,1\n`
unfoldable pub top1000 : List ℕ
top1000 = 71 ∷ 44 ∷ 49 ∷ 48 ∷ 48 ∷ 48 ∷ 44 ∷ 49 ∷ 10 ∷ []

-- `G,1,512\n`
unfoldable pub conditions512 : List ℕ
conditions512 = 71 ∷ 44 ∷ 49 ∷ 44 ∷ 53 ∷ 49 ∷ 50 ∷ 10 ∷ []

-- `G,1,513\n`
unfoldable pub conditions513 : List ℕ
conditions513 = 71 ∷ 44 ∷ 49 ∷ 44 ∷ 53 ∷ 49 ∷ 51 ∷ 10 ∷ []

-- `G,3,1\nR,0,3,M,0\n`
unfoldable pub weight3 : List ℕ
weight3 = 71 ∷ 44 ∷ 51 ∷ 44 ∷ 49 ∷ 10 ∷ 82 ∷ 44 ∷ 48 ∷ 44 ∷ 51 ∷ 44 ∷ 77 ∷ 44 ∷ 48 ∷ 10 ∷ []

-- `G,3,1\nR,0,4,M,0\n`
unfoldable pub weight4 : List ℕ
weight4 = 71 ∷ 44 ∷ 51 ∷ 44 ∷ 49 ∷ 10 ∷ 82 ∷ 44 ∷ 48 ∷ 44 ∷ 52 ∷ 44 ∷ 77 ∷ 44 ∷ 48 ∷ 10 ∷ []

-- `G,3,1\nR,0,0,M,0\n`
unfoldable pub weight0 : List ℕ
weight0 = 71 ∷ 44 ∷ 51 ∷ 44 ∷ 49 ∷ 10 ∷ 82 ∷ 44 ∷ 48 ∷ 44 ∷ 48 ∷ 44 ∷ 77 ∷ 44 ∷ 48 ∷ 10 ∷ []

-- `G,1,2\nR,0,1,M,0\nR,0,1,X,1\nR,0,1,L,!0\nR,0,1,B,!1\nR,0,1,P,0\n`
unfoldable pub letters : List ℕ
letters = 71 ∷ 44 ∷ 49 ∷ 44 ∷ 50 ∷ 10 ∷ 82 ∷ 44 ∷ 48 ∷ 44 ∷ 49 ∷ 44 ∷ 77 ∷ 44 ∷ 48 ∷ 10 ∷ 82 ∷ 44 ∷ 48 ∷ 44 ∷ 49 ∷ 44 ∷ 88 ∷ 44 ∷ 49 ∷ 10 ∷ 82 ∷ 44 ∷ 48 ∷ 44 ∷ 49 ∷ 44 ∷ 76 ∷ 44 ∷ 33 ∷ 48 ∷ 10 ∷ 82 ∷ 44 ∷ 48 ∷ 44 ∷ 49 ∷ 44 ∷ 66 ∷ 44 ∷ 33 ∷ 49 ∷ 10 ∷ 82 ∷ 44 ∷ 48 ∷ 44 ∷ 49 ∷ 44 ∷ 80 ∷ 44 ∷ 48 ∷ 10 ∷ []

-- `G,10,1\nF,9,03,4\n`
unfoldable pub form_and_range : List ℕ
form_and_range = 71 ∷ 44 ∷ 49 ∷ 48 ∷ 44 ∷ 49 ∷ 10 ∷ 70 ∷ 44 ∷ 57 ∷ 44 ∷ 48 ∷ 51 ∷ 44 ∷ 52 ∷ 10 ∷ []

-- `G,10,1\n`, and lines behind it
unfoldable pub ten : List ℕ
ten = 71 ∷ 44 ∷ 49 ∷ 48 ∷ 44 ∷ 49 ∷ 10 ∷ []

-- `F,1,3,4\n`
unfoldable pub far_fact : List ℕ
far_fact = 70 ∷ 44 ∷ 49 ∷ 44 ∷ 51 ∷ 44 ∷ 52 ∷ 10 ∷ []

-- `F,0,11,11\n`
unfoldable pub low_over : List ℕ
low_over = 70 ∷ 44 ∷ 48 ∷ 44 ∷ 49 ∷ 49 ∷ 44 ∷ 49 ∷ 49 ∷ 10 ∷ []

-- `F,0,3,11\n`
unfoldable pub high_over : List ℕ
high_over = 70 ∷ 44 ∷ 48 ∷ 44 ∷ 51 ∷ 44 ∷ 49 ∷ 49 ∷ 10 ∷ []

-- `F,0,10,10\n`
unfoldable pub full : List ℕ
full = 70 ∷ 44 ∷ 48 ∷ 44 ∷ 49 ∷ 48 ∷ 44 ∷ 49 ∷ 48 ∷ 10 ∷ []

-- `F,1,4,3\n`
unfoldable pub far_crossed : List ℕ
far_crossed = 70 ∷ 44 ∷ 49 ∷ 44 ∷ 52 ∷ 44 ∷ 51 ∷ 10 ∷ []

-- `F,1,11,11\n`
unfoldable pub far_low_over : List ℕ
far_low_over = 70 ∷ 44 ∷ 49 ∷ 44 ∷ 49 ∷ 49 ∷ 44 ∷ 49 ∷ 49 ∷ 10 ∷ []

-- `F,0,11,3\n`
unfoldable pub over_crossed : List ℕ
over_crossed = 70 ∷ 44 ∷ 48 ∷ 44 ∷ 49 ∷ 49 ∷ 44 ∷ 51 ∷ 10 ∷ []

-- `R,1,10,M,0\n`
unfoldable pub far_rule : List ℕ
far_rule = 82 ∷ 44 ∷ 49 ∷ 44 ∷ 49 ∷ 48 ∷ 44 ∷ 77 ∷ 44 ∷ 48 ∷ 10 ∷ []

-- `R,1,0,M,0\n`
unfoldable pub far_weight0 : List ℕ
far_weight0 = 82 ∷ 44 ∷ 49 ∷ 44 ∷ 48 ∷ 44 ∷ 77 ∷ 44 ∷ 48 ∷ 10 ∷ []

-- `R,0,0,M,1\n`
unfoldable pub weight0_literal : List ℕ
weight0_literal = 82 ∷ 44 ∷ 48 ∷ 44 ∷ 48 ∷ 44 ∷ 77 ∷ 44 ∷ 49 ∷ 10 ∷ []

-- `R,0,11,M,!1\n`
unfoldable pub weight11_literal : List ℕ
weight11_literal = 82 ∷ 44 ∷ 48 ∷ 44 ∷ 49 ∷ 49 ∷ 44 ∷ 77 ∷ 44 ∷ 33 ∷ 49 ∷ 10 ∷ []

-- `R,0,10,M,0,!1\n`
unfoldable pub negation_far : List ℕ
negation_far = 82 ∷ 44 ∷ 48 ∷ 44 ∷ 49 ∷ 48 ∷ 44 ∷ 77 ∷ 44 ∷ 48 ∷ 44 ∷ 33 ∷ 49 ∷ 10 ∷ []

-- `R,0,10,M,0,1,1\n`
unfoldable pub literals_far : List ℕ
literals_far = 82 ∷ 44 ∷ 48 ∷ 44 ∷ 49 ∷ 48 ∷ 44 ∷ 77 ∷ 44 ∷ 48 ∷ 44 ∷ 49 ∷ 44 ∷ 49 ∷ 10 ∷ []

-- `Q,K,1\n`
unfoldable pub far_query : List ℕ
far_query = 81 ∷ 44 ∷ 75 ∷ 44 ∷ 49 ∷ 10 ∷ []

-- `R,0,10,M`, k literals `0` and the literal `1`
unfoldable pub zeros : ℕ → List ℕ
zeros zero = 44 ∷ 49 ∷ 10 ∷ []
zeros (suc k) = 44 ∷ 48 ∷ zeros k

unfoldable pub far_after : ℕ → List ℕ
far_after k = ten ++ (82 ∷ 44 ∷ 48 ∷ 44 ∷ 49 ∷ 48 ∷ 44 ∷ 77 ∷ [] ++ zeros k)

-- `G,0,1\n`
unfoldable pub top0 : List ℕ
top0 = 71 ∷ 44 ∷ 48 ∷ 44 ∷ 49 ∷ 10 ∷ []

-- `G,1,0\n`
unfoldable pub conditions0 : List ℕ
conditions0 = 71 ∷ 44 ∷ 49 ∷ 44 ∷ 48 ∷ 10 ∷ []

-- `G,201,513\n`
unfoldable pub both_over : List ℕ
both_over = 71 ∷ 44 ∷ 50 ∷ 48 ∷ 49 ∷ 44 ∷ 53 ∷ 49 ∷ 51 ∷ 10 ∷ []

-- `x`
unfoldable pub no_line : List ℕ
no_line = 120 ∷ []

-- `G\n\nQ`
unfoldable pub three : List ℕ
three = 71 ∷ 10 ∷ 10 ∷ 81 ∷ []

-- k lines `Q,K,0`
unfoldable pub queries : ℕ → List ℕ
queries zero = []
queries (suc k) = query ++ queries k

-- `x`, a line of no form
unfoldable pub no_form : List ℕ
no_form = 120 ∷ 10 ∷ []

-- `G,10,3\n`, and lines behind it
unfoldable pub ten_three : List ℕ
ten_three = 71 ∷ 44 ∷ 49 ∷ 48 ∷ 44 ∷ 51 ∷ 10 ∷ []

-- `D,0,U\n`
unfoldable pub unknown0 : List ℕ
unknown0 = 68 ∷ 44 ∷ 48 ∷ 44 ∷ 85 ∷ 10 ∷ []

-- `D,2,U\n`
unfoldable pub unknown2 : List ℕ
unknown2 = 68 ∷ 44 ∷ 50 ∷ 44 ∷ 85 ∷ 10 ∷ []

-- `D,5,U\n`
unfoldable pub unknown5 : List ℕ
unknown5 = 68 ∷ 44 ∷ 53 ∷ 44 ∷ 85 ∷ 10 ∷ []

-- `D,511,U\n`
unfoldable pub unknown511 : List ℕ
unknown511 = 68 ∷ 44 ∷ 53 ∷ 49 ∷ 49 ∷ 44 ∷ 85 ∷ 10 ∷ []

-- `D,0,V\n`
unfoldable pub other_letter : List ℕ
other_letter = 68 ∷ 44 ∷ 48 ∷ 44 ∷ 86 ∷ 10 ∷ []

-- `D,5,V\n`
unfoldable pub far_other_letter : List ℕ
far_other_letter = 68 ∷ 44 ∷ 53 ∷ 44 ∷ 86 ∷ 10 ∷ []

-- `D,0\n`
unfoldable pub no_letter : List ℕ
no_letter = 68 ∷ 44 ∷ 48 ∷ 10 ∷ []

-- `D,0,\n`
unfoldable pub empty_letter : List ℕ
empty_letter = 68 ∷ 44 ∷ 48 ∷ 44 ∷ 10 ∷ []

-- `D,0,UU\n`
unfoldable pub two_letters : List ℕ
two_letters = 68 ∷ 44 ∷ 48 ∷ 44 ∷ 85 ∷ 85 ∷ 10 ∷ []

-- `D,0,U,U\n`
unfoldable pub four_fields : List ℕ
four_fields = 68 ∷ 44 ∷ 48 ∷ 44 ∷ 85 ∷ 44 ∷ 85 ∷ 10 ∷ []

-- `D,U,0\n`
unfoldable pub letter_first : List ℕ
letter_first = 68 ∷ 44 ∷ 85 ∷ 44 ∷ 48 ∷ 10 ∷ []

-- `d,0,U\n`
unfoldable pub small_letter : List ℕ
small_letter = 100 ∷ 44 ∷ 48 ∷ 44 ∷ 85 ∷ 10 ∷ []

unfoldable pub nines : ℕ → List ℕ
nines k = replicate k 9

unfoldable pub text_rows : List TextRow
text_rows =
    -- 1: longer than 65,535 bytes. No page is that long; a text of 65,535 bytes is refused for another cause.
    answers (replicate 65536 10) [] (refused_page 1 0 0)
    ∷ answers (replicate 65535 10) [] (refused_page 3 1 0)
    -- .. before 2
    ∷ answers (replicate 65536 120) [] (refused_page 1 0 0)
    -- 2: empty, or the last byte is not 10
    ∷ reads [] (nines 5) (refused_page 2 0 0) (nines 5)
    ∷ reads no_end (nines 5) (refused_page 2 0 0) (nines 5)
    ∷ reads head (nines 6) (read_page 5) (1 ∷ 1 ∷ 0 ∷ 5 ∷ 0 ∷ 9 ∷ [])
    -- .. before 3
    ∷ reads no_line [] (refused_page 2 0 0) []
    -- 3, and row 12: a leading zero
    ∷ reads zero_first (nines 10) (refused_page 3 2 0) (nines 10)
    ∷ reads fact34 (nines 10) (read_page 9) (10 ∷ 1 ∷ 1 ∷ 9 ∷ 0 ∷ 0 ∷ 0 ∷ 3 ∷ 4 ∷ 9 ∷ [])
    -- .. before 4
    ∷ reads form_and_range (nines 10) (refused_page 3 2 0) (nines 10)
    -- 23, and row 12: low above high
    ∷ reads fact43 (nines 10) (refused_page 23 2 4) (nines 10)
    ∷ reads fact44 (nines 10) (read_page 9) (10 ∷ 1 ∷ 1 ∷ 9 ∷ 0 ∷ 0 ∷ 0 ∷ 4 ∷ 4 ∷ 9 ∷ [])
    -- .. before 6
    ∷ reads fact43 (nines 3) (refused_page 23 2 4) (nines 3)
    -- 6: the area is shorter than the used length
    ∷ reads fact44 (nines 8) (refused_page 6 0 0) (nines 8)
    ∷ reads fact44 (nines 9) (read_page 9) (10 ∷ 1 ∷ 1 ∷ 9 ∷ 0 ∷ 0 ∷ 0 ∷ 4 ∷ 4 ∷ [])
    -- row 9
    ∷ reads last (nines 520) (read_page 520) (1 ∷ 512 ∷ 1 ∷ 520 ∷ (replicate 512 0 ++ (511 ∷ 0 ∷ 0 ∷ 1 ∷ [])))
    ∷ reads past (nines 520) (refused_page 4 2 2) (nines 520)
    -- row 10
    ∷ reads top200 (nines 5) (read_page 5) (200 ∷ 1 ∷ 0 ∷ 5 ∷ 0 ∷ [])
    ∷ reads top201 (nines 5) (refused_page 4 1 2) (nines 5)
    ∷ reads top1000 (nines 5) (refused_page 3 1 0) (nines 5)
    ∷ reads conditions512 (nines 516) (read_page 516) (1 ∷ 512 ∷ 0 ∷ 516 ∷ replicate 512 0)
    ∷ reads conditions513 (nines 517) (refused_page 4 1 3) (nines 517)
    ∷ reads weight3 (nines 10) (read_page 10) (3 ∷ 1 ∷ 1 ∷ 10 ∷ 0 ∷ 0 ∷ 1 ∷ 3 ∷ 1 ∷ 0 ∷ [])
    ∷ reads weight4 (nines 10) (refused_page 21 2 3) (nines 10)
    ∷ reads weight0 (nines 10) (refused_page 21 2 3) (nines 10)
    ∷ reads eight (nines 17) (read_page 17) (1 ∷ 1 ∷ 1 ∷ 17 ∷ 0 ∷ 0 ∷ 1 ∷ 1 ∷ 8 ∷ 0 ∷ 0 ∷ 0 ∷ 0 ∷ 0 ∷ 0 ∷ 0 ∷ 1 ∷ [])
    ∷ reads nine (nines 18) (refused_page 3 2 0) (nines 18)
    -- 4 at each field that it can stand at: the first line,
    ∷ answers top0 [] (refused_page 4 1 2)
    ∷ answers conditions0 [] (refused_page 4 1 3)
    -- a condition,
    ∷ answers (ten ++ far_fact) [] (refused_page 4 2 2)
    ∷ answers (ten ++ far_rule) [] (refused_page 4 2 2)
    ∷ answers (ten ++ far_query) [] (refused_page 4 2 3)
    -- a literal, the first to the eighth, and a negation
    ∷ answers (far_after 0) [] (refused_page 4 2 5)
    ∷ answers (far_after 1) [] (refused_page 4 2 6)
    ∷ answers (far_after 2) [] (refused_page 4 2 7)
    ∷ answers (far_after 3) [] (refused_page 4 2 8)
    ∷ answers (far_after 4) [] (refused_page 4 2 9)
    ∷ answers (far_after 5) [] (refused_page 4 2 10)
    ∷ answers (far_after 6) [] (refused_page 4 2 11)
    ∷ answers (far_after 7) [] (refused_page 4 2 12)
    ∷ answers (ten ++ negation_far) [] (refused_page 4 2 6)
    -- 22: low, high
    ∷ answers (ten ++ low_over) [] (refused_page 22 2 3)
    ∷ answers (ten ++ high_over) [] (refused_page 22 2 4)
    ∷ answers (ten ++ full) (nines 9) (read_page 9)
    -- two bad fields in one line: the left one
    ∷ answers both_over [] (refused_page 4 1 2)
    ∷ answers (ten ++ far_low_over) [] (refused_page 4 2 2)
    ∷ answers (ten ++ far_crossed) [] (refused_page 4 2 2)
    ∷ answers (ten ++ over_crossed) [] (refused_page 22 2 3)
    ∷ answers (ten ++ far_weight0) [] (refused_page 4 2 2)
    ∷ answers (ten ++ weight0_literal) [] (refused_page 21 2 3)
    ∷ answers (ten ++ weight11_literal) [] (refused_page 21 2 3)
    ∷ answers (ten ++ literals_far) [] (refused_page 4 2 6)
    -- row 11, and 5: 1,025 lines in all are read, a 1,026th is refused, however it looks
    ∷ answers (head ++ queries 1024) (nines 4101) (read_page 4101)
    ∷ answers (head ++ queries 1025) (nines 4105) (refused_page 5 1026 0)
    ∷ answers (head ++ (queries 1024 ++ no_form)) (nines 4105) (refused_page 5 1026 0)
    ∷ answers (head ++ (queries 1024 ++ far_query)) (nines 4105) (refused_page 5 1026 0)
    ∷ answers (head ++ (queries 1023 ++ no_form)) (nines 4105) (refused_page 3 1025 0)
    ∷ answers (head ++ (unknown0 ++ (queries 1023 ++ unknown0))) (nines 4105) (refused_page 5 1026 0)
    -- D lines: the D numbers of their conditions are 1, in whatever order the lines come
    ∷ reads (ten_three ++ (unknown2 ++ (query ++ unknown0))) (nines 20) (read_page 19)
    (10 ∷ 3 ∷ 3 ∷ 19 ∷ 1 ∷ 0 ∷ 1 ∷ 2 ∷ 7 ∷ 0 ∷ 0 ∷ 0 ∷ 6 ∷ 0 ∷ 0 ∷ 0 ∷ 7 ∷ 0 ∷ 0 ∷ 9 ∷ [])
    ∷ reads (ten_three ++ (unknown2 ++ (query ++ unknown0))) (nines 18) (refused_page 6 0 0) (nines 18)
    ∷ reads (conditions512 ++ unknown511) (nines 520) (read_page 520) (1 ∷ 512 ∷ 1 ∷ 520 ∷ (replicate 511 0 ++ (1 ∷ 511 ∷ 7 ∷ 0 ∷ 0 ∷ [])))
    -- 24: a second D line for one condition, told at its line and without a place; before 6
    ∷ reads (ten_three ++ (unknown2 ++ unknown2)) (nines 15) (refused_page 24 3 0) (nines 15)
    ∷ answers (ten_three ++ (unknown2 ++ (query ++ (unknown0 ++ (query ++ unknown2))))) [] (refused_page 24 6 0)
    ∷ answers (ten_three ++ (unknown0 ++ (unknown2 ++ unknown0))) [] (refused_page 24 4 0)
    -- .. the first bad line decides, and a condition out of range is 4, at its place, for the second D line as for the first
    ∷ answers (ten_three ++ unknown5) [] (refused_page 4 2 2)
    ∷ answers (ten_three ++ (unknown5 ++ unknown5)) [] (refused_page 4 2 2)
    ∷ answers (ten_three ++ (unknown0 ++ (unknown5 ++ unknown0))) [] (refused_page 4 3 2)
    ∷ answers (ten_three ++ (unknown0 ++ (unknown0 ++ unknown5))) [] (refused_page 24 3 0)
    -- .. 3 before 4 and before 24
    ∷ answers (ten_three ++ far_other_letter) [] (refused_page 3 2 0)
    ∷ answers (ten_three ++ (unknown0 ++ other_letter)) [] (refused_page 3 3 0)
    -- .. the forms next to it
    ∷ answers (ten_three ++ other_letter) [] (refused_page 3 2 0)
    ∷ answers (ten_three ++ no_letter) [] (refused_page 3 2 0)
    ∷ answers (ten_three ++ empty_letter) [] (refused_page 3 2 0)
    ∷ answers (ten_three ++ two_letters) [] (refused_page 3 2 0)
    ∷ answers (ten_three ++ four_fields) [] (refused_page 3 2 0)
    ∷ answers (ten_three ++ letter_first) [] (refused_page 3 2 0)
    ∷ answers (ten_three ++ small_letter) [] (refused_page 3 2 0)
    -- the page of row 1
    ∷ reads example (nines 33) (read_page 32)
    (10 ∷ 2 ∷ 6 ∷ 32 ∷ 0 ∷ 0 ∷ 0 ∷ 0 ∷ 2 ∷ 2 ∷ 1 ∷ 0 ∷ 3 ∷ 3 ∷ 0 ∷ 1 ∷ 10 ∷ 1 ∷ 3 ∷ 1 ∷ 1 ∷ 10 ∷ 1 ∷ 1 ∷ 0 ∷ 6 ∷ 0 ∷ 0 ∷ 1 ∷ 6 ∷ 1 ∷ 0 ∷ 9 ∷ [])
    -- the five op letters
    ∷ reads letters (nines 32) (read_page 31)
    (1 ∷ 2 ∷ 5 ∷ 31 ∷ 0 ∷ 0 ∷ 0 ∷ 1 ∷ 1 ∷ 1 ∷ 0 ∷ 0 ∷ 2 ∷ 1 ∷ 1 ∷ 2 ∷ 0 ∷ 3 ∷ 1 ∷ 1 ∷ 1 ∷ 0 ∷ 4 ∷ 1 ∷ 1 ∷ 3 ∷ 0 ∷ 5 ∷ 1 ∷ 1 ∷ 0 ∷ 9 ∷ [])
    -- show a line: `G`, an empty line and a last line without byte 10; none with number 0 or 4
    ∷ shows three 0 [] 0
    ∷ shows three 1 (71 ∷ []) 0
    ∷ shows three 2 [] 2
    ∷ shows three 3 (81 ∷ []) 3
    ∷ shows three 4 [] 4
    ∷ shows [] 1 [] 0
    ∷ []
