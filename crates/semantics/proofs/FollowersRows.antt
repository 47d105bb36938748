-- Worked rows of the count of followers, on raw areas: counts, refusals and their order. One list, one claim (`followers_bench`). Assumes nothing.
use mathlib.Core.List.{List, [], ◌∷◌}
use Prim.Native.Nat.{ℕ}
use Rattle.semantics.specs.Followers.{FollowersAnswer, refused_followers, followed_by, FollowersOf}
use Rattle.semantics.proofs.LayersRows.{area_back, area_self, area_two, area_three, area_plain}

-- a call, and its answer
pub data FollowersRow : Type 0 where
  asks : (area : List ℕ) → (condition : ℕ) → FollowersAnswer → FollowersRow

abbrev pub FollowersHold : List FollowersRow → Type 0
FollowersHold [] = Unit {0}
FollowersHold (asks a c o ∷ rs) = FollowersOf o a c × FollowersHold rs

unfoldable pub followers_rows : List FollowersRow
followers_rows =
    -- 0 names 1; 1 names 0 and !2; 2 names 1: each follows each, itself too
    asks area_back 0 (followed_by 3)
    -- 0 names 1, 1 names !1: 1 follows itself, 0 does not
    ∷ asks area_self 0 (followed_by 0)
    ∷ asks area_self 1 (followed_by 2)
    -- 0 names 1, 1 names 0 and !2, 2 names 3, 3 names !2
    ∷ asks area_two 1 (followed_by 2)
    ∷ asks area_two 3 (followed_by 4)
    -- 0 names !1, 1 names !2, 3 names 1 and 3: 0 and 3 follow 2 through 1, and 2 does not follow itself
    ∷ asks area_three 0 (followed_by 0)
    ∷ asks area_three 1 (followed_by 2)
    ∷ asks area_three 2 (followed_by 3)
    ∷ asks area_three 3 (followed_by 1)
    -- 0 names 1 and 2, 1 names 0 and !3, 2 names 0; a fact of 3 and a query of 0 add nothing
    ∷ asks area_plain 0 (followed_by 3)
    ∷ asks area_plain 3 (followed_by 3)
    ∷ asks area_three 4 (refused_followers 15)
    ∷ asks (1 ∷ 5 ∷ []) 0 (refused_followers 10)
    -- the order of the causes: of two that hold at once the first tells
    ∷ asks (1 ∷ 5 ∷ []) 9 (refused_followers 10)
    ∷ []
