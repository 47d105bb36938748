-- Worked rows of the check of picks and figures, on raw areas: every answer and refusal, the places told, and the order of the causes.
-- One list, one claim (`picks_bench`). Assumes nothing.
use mathlib.Core.List.{List, [], ◌∷◌}
use Prim.Native.Nat.{ℕ}
use Rattle.semantics.specs.Picks.{PicksAnswer, refused_queries, not_waiting, not_at_rest, wrong_figures, accepted_picks, PicksOf}
use Rattle.semantics.proofs.AreaRows.{area1, area_no_kind, area_nine, chain, many}

-- a call and its answer
pub data PicksRow : Type 0 where
  checks : (area queries picks figures : List ℕ) → PicksAnswer → PicksRow

abbrev pub PicksHold : List PicksRow → Type 0
PicksHold [] = Unit {0}
PicksHold (checks a qs picks figures o ∷ rs) = PicksOf o a qs picks figures × PicksHold rs

unfoldable pub picks_rows : List PicksRow
picks_rows =
    -- the page of row 1: in the order of a drive, in another order, and for two queries in list order
    checks area1 (0 ∷ []) (0 ∷ 1 ∷ 0 ∷ 1 ∷ []) (2 ∷ 7 ∷ []) accepted_picks
    ∷ checks area1 (0 ∷ []) (1 ∷ 0 ∷ 1 ∷ 0 ∷ []) (2 ∷ 7 ∷ []) accepted_picks
    ∷ checks area1 (1 ∷ 0 ∷ []) (1 ∷ 0 ∷ 1 ∷ 0 ∷ []) (3 ∷ 8 ∷ 2 ∷ 7 ∷ []) accepted_picks
    -- 50: the second pick of a condition that waits no longer, the place behind picks that waited, and the first of two bad ones
    ∷ checks area1 (0 ∷ []) (0 ∷ 0 ∷ 1 ∷ []) (2 ∷ 7 ∷ []) (not_waiting 2)
    ∷ checks area1 (0 ∷ []) (0 ∷ 1 ∷ 0 ∷ 1 ∷ 0 ∷ []) (2 ∷ 7 ∷ []) (not_waiting 5)
    ∷ checks area1 (0 ∷ []) (0 ∷ 9 ∷ 9 ∷ []) (2 ∷ 7 ∷ []) (not_waiting 2)
    -- 50: not a condition, and not reached
    ∷ checks area1 (0 ∷ []) (2 ∷ []) (2 ∷ 7 ∷ []) (not_waiting 1)
    ∷ checks chain (1 ∷ []) (0 ∷ []) (0 ∷ 0 ∷ []) (not_waiting 1)
    -- 51: too few picks, and none
    ∷ checks area1 (0 ∷ []) (0 ∷ 1 ∷ 0 ∷ []) (2 ∷ 7 ∷ []) not_at_rest
    ∷ checks area1 (0 ∷ []) [] (0 ∷ 10 ∷ []) not_at_rest
    -- 52: a low end, a high end, another order of the queries, too few numbers and too many
    ∷ checks area1 (0 ∷ []) (0 ∷ 1 ∷ 0 ∷ 1 ∷ []) (3 ∷ 7 ∷ []) wrong_figures
    ∷ checks area1 (0 ∷ []) (0 ∷ 1 ∷ 0 ∷ 1 ∷ []) (2 ∷ 8 ∷ []) wrong_figures
    ∷ checks area1 (1 ∷ 0 ∷ []) (0 ∷ 1 ∷ 0 ∷ 1 ∷ []) (2 ∷ 7 ∷ 3 ∷ 8 ∷ []) wrong_figures
    ∷ checks area1 (1 ∷ 0 ∷ []) (0 ∷ 1 ∷ 0 ∷ 1 ∷ []) (3 ∷ 8 ∷ 2 ∷ []) wrong_figures
    ∷ checks area1 (0 ∷ []) (0 ∷ 1 ∷ 0 ∷ 1 ∷ []) (2 ∷ 7 ∷ 3 ∷ 8 ∷ []) wrong_figures
    ∷ checks area1 (0 ∷ []) (0 ∷ 1 ∷ 0 ∷ 1 ∷ []) [] wrong_figures
    -- a query twice; a condition that names itself waits again
    ∷ checks chain (1 ∷ 1 ∷ []) (2 ∷ 1 ∷ []) (0 ∷ 0 ∷ 0 ∷ 0 ∷ []) accepted_picks
    ∷ checks area_nine (0 ∷ []) (0 ∷ 0 ∷ []) (0 ∷ 9 ∷ []) accepted_picks
    ∷ checks area_nine (0 ∷ []) (0 ∷ []) (0 ∷ 9 ∷ []) not_at_rest
    -- 10, 11 and 12, and the order of the causes: of those that hold at once the first tells
    ∷ checks area_no_kind (0 ∷ []) [] [] (refused_queries 10)
    ∷ checks area_no_kind [] (9 ∷ []) [] (refused_queries 10)
    ∷ checks area1 [] (9 ∷ []) [] (refused_queries 11)
    ∷ checks area1 (2 ∷ many) (9 ∷ []) [] (refused_queries 11)
    ∷ checks area1 (0 ∷ 2 ∷ []) (9 ∷ []) [] (refused_queries 12)
    ∷ checks area1 (0 ∷ []) (9 ∷ []) [] (not_waiting 1)
    ∷ checks area1 (0 ∷ []) (0 ∷ []) [] not_at_rest
    ∷ []
