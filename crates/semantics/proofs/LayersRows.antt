-- Worked rows of the check for loops through an absence, on raw areas: layers, conditions told, refusals and their order, and what is left
-- in the slice. One list, one claim (`layers_bench`). Assumes nothing.
use mathlib.Core.List.{List, [], ◌∷◌}
use Prim.Native.Nat.{ℕ}
use Rattle.semantics.specs.Layers.{LayersAnswer, refused_layers, loops_at, layered, LayersOf}

-- a call: its answer, and the slice that it leaves
pub data LayersRow : Type 0 where
  checks : (area slice : List ℕ) → LayersAnswer → (left : List ℕ) → LayersRow

abbrev pub LayersHold : List LayersRow → Type 0
LayersHold [] = Unit {0}
LayersHold (checks a s o left ∷ rs) = LayersOf o a s left × LayersHold rs

-- 0 names 1; 1 names 0 and !2; 2 names 1: the chain 0, 1, 2, 1, 0 repeats 1
unfoldable pub area_back : List ℕ
area_back =
    1 ∷ 3 ∷ 3 ∷ 23
    ∷ 0 ∷ 0 ∷ 0
    ∷ 0 ∷ 1 ∷ 1 ∷ 1 ∷ 2
    ∷ 1 ∷ 1 ∷ 1 ∷ 2 ∷ 0 ∷ 5
    ∷ 2 ∷ 1 ∷ 1 ∷ 1 ∷ 2
    ∷ []

-- 0 names 1, 1 names !1: 0 reaches a loop and is on none
unfoldable pub area_self : List ℕ
area_self =
    1 ∷ 2 ∷ 2 ∷ 16
    ∷ 0 ∷ 0
    ∷ 0 ∷ 1 ∷ 1 ∷ 1 ∷ 2
    ∷ 1 ∷ 1 ∷ 1 ∷ 1 ∷ 3
    ∷ []

-- 0 names 1, 1 names 0, 1 names !2, 2 names 3, 3 names !2: {2, 3} is a loop through a negation, {0, 1} is one without
unfoldable pub area_two : List ℕ
area_two =
    1 ∷ 4 ∷ 4 ∷ 29
    ∷ 0 ∷ 0 ∷ 0 ∷ 0
    ∷ 0 ∷ 1 ∷ 1 ∷ 1 ∷ 2
    ∷ 1 ∷ 1 ∷ 1 ∷ 2 ∷ 0 ∷ 5
    ∷ 2 ∷ 1 ∷ 1 ∷ 1 ∷ 6
    ∷ 3 ∷ 1 ∷ 1 ∷ 1 ∷ 5
    ∷ []

-- 0 names !1, 1 names !2, 3 names 1 and 3: layers 2, 1, 0, 1
unfoldable pub area_three : List ℕ
area_three =
    1 ∷ 4 ∷ 3 ∷ 24
    ∷ 0 ∷ 0 ∷ 0 ∷ 0
    ∷ 0 ∷ 1 ∷ 1 ∷ 1 ∷ 3
    ∷ 1 ∷ 1 ∷ 1 ∷ 1 ∷ 5
    ∷ 3 ∷ 1 ∷ 1 ∷ 2 ∷ 2 ∷ 6
    ∷ []

-- 0 names 1 and 2, 1 and 2 name 0: a loop without a negation; 1 names !3, and a fact and a query add nothing
unfoldable pub area_plain : List ℕ
area_plain =
    1 ∷ 4 ∷ 5 ∷ 33
    ∷ 0 ∷ 0 ∷ 0 ∷ 0
    ∷ 0 ∷ 1 ∷ 1 ∷ 2 ∷ 2 ∷ 4
    ∷ 1 ∷ 1 ∷ 1 ∷ 2 ∷ 0 ∷ 7
    ∷ 2 ∷ 1 ∷ 1 ∷ 1 ∷ 0
    ∷ 3 ∷ 0 ∷ 1 ∷ 1
    ∷ 0 ∷ 6 ∷ 0 ∷ 0
    ∷ []

unfoldable pub layers_rows : List LayersRow
layers_rows =
    checks area_back (9 ∷ 9 ∷ 9 ∷ 9 ∷ []) (loops_at 0) (9 ∷ 9 ∷ 9 ∷ 9 ∷ [])
    ∷ checks area_self (9 ∷ 9 ∷ []) (loops_at 1) (9 ∷ 9 ∷ [])
    ∷ checks area_two (9 ∷ 9 ∷ 9 ∷ 9 ∷ []) (loops_at 2) (9 ∷ 9 ∷ 9 ∷ 9 ∷ [])
    ∷ checks area_three (9 ∷ 9 ∷ 9 ∷ 9 ∷ 9 ∷ []) layered (2 ∷ 1 ∷ 0 ∷ 1 ∷ 9 ∷ [])
    ∷ checks area_plain (9 ∷ 9 ∷ 9 ∷ 9 ∷ []) layered (1 ∷ 1 ∷ 1 ∷ 0 ∷ [])
    ∷ checks area_three (9 ∷ 9 ∷ 9 ∷ []) (refused_layers 31) (9 ∷ 9 ∷ 9 ∷ [])
    ∷ checks (1 ∷ 5 ∷ []) (9 ∷ []) (refused_layers 10) (9 ∷ [])
    -- the order of the causes: of two that hold at once the first tells
    ∷ checks (1 ∷ 5 ∷ []) [] (refused_layers 10) []
    ∷ checks area_self (9 ∷ []) (refused_layers 31) (9 ∷ [])
    ∷ []
