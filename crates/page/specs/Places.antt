-- Where the lines of a page area stand. Assumes nothing.
use Rattle.std.specs.Prelude.{◌≡◌, List, ℕ, zero, suc, ◌+◌, ◌≤◌, ◌<◌, get_or, Option, MatchOption}
use Rattle.semantics.specs.Area.{first_line, count_of}
use Rattle.page.specs.Lines.{step_at, Next}

-- the place where the entry of line k begins, from line 0
unfoldable pub place_of : List ℕ → ℕ → ℕ
place_of a zero = first_line a
place_of a (suc k) = place_of a k + step_at a (place_of a k)

-- a line begins at a place
pub record LineIn (a : List ℕ) (at : ℕ) : Type 0 where
  pub number : ℕ
  pub in_count : number < count_of a
  pub place : at ≡ place_of a number

-- an R line begins at a place
pub record RuleIn (a : List ℕ) (at : ℕ) : Type 0 where
  pub line : LineIn a at
  pub least : 1 ≤ get_or a (at + 1) 0
  pub most : get_or a (at + 1) 0 ≤ 5

-- an F or R line of the condition c begins at a place
pub record LineOf (a : List ℕ) (c at : ℕ) : Type 0 where
  pub number : ℕ
  pub in_count : number < count_of a
  pub place : at ≡ place_of a number
  pub head : get_or a at 0 ≡ c
  pub body : get_or a (at + 1) 0 ≤ 5

-- a scan at (at, passed) gives the place of the next line and stands behind it, or there is no other line
pub record Proceeds (a : List ℕ) (at passed : ℕ) (given : Option ℕ) (a' : List ℕ) (at' passed' : ℕ) : Type 0 where
  pub same : a' ≡ a
  pub gives : MatchOption given ((count_of a ≤ passed) × (at' ≡ at) × (passed' ≡ passed)) (λ place. (passed < count_of a) × (place ≡ at) × (at ≡ place_of a passed) × Next a at passed at' passed')

-- the first four numbers of the entry at a place
pub record EntryIs (a : List ℕ) (at condition kind x y : ℕ) : Type 0 where
  pub condition_is : condition ≡ get_or a at 0
  pub kind_is : kind ≡ get_or a (at + 1) 0
  pub x_is : x ≡ get_or a (at + 2) 0
  pub y_is : y ≡ get_or a (at + 3) 0
