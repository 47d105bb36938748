-- Rows of followers as words, and what a pass over a page's lines does to them. Assumes nothing.
use Rattle.std.specs.Prelude.{◌≡◌, ◌↔◌, Bool, true, false, ◌&&◌, ◌||◌, List, ℕ, ◌+◌, ◌<◌, eqb, length, get_or, drop}
use Rattle.fixpoint.specs.Sum.{count}
use Rattle.semantics.specs.Area.{line_at}
use Rattle.semantics.specs.Followers.{Follows}
use Rattle.semantics.specs.Page.{Page, names}
use Rattle.semantics.specs.Table.{any_below}
use Rattle.page.specs.Lines.{line_names}
use Rattle.bits.specs.Words.{has, Inserted}

-- some condition of the set has f
abbrev pub meets : List ℕ → (ℕ → Bool) → Bool
meets words f = any_below 512 (λ b. has words b && f b)

-- two sets, the first with all that the second has
pub record Covers (seen row : List ℕ) : Type 0 where
  pub seen_size : length seen ≡ 8
  pub row_size : length row ≡ 8
  pub covers : (k : ℕ) → k < 512 → has row k ≡ true → has seen k ≡ true

-- a line is followed: nothing changes, where its head is in the row or it names none that is seen; or its head is new in the row
pub data LineFollowed (a : List ℕ) (at : ℕ) (seen row : List ℕ) : (seen' row' : List ℕ) → ℕ → Type 0 where
  stays : (meets seen (line_names (line_at (drop at a))) ≡ true → has row (get_or a at 0) ≡ true) → LineFollowed a at seen row seen row 0
  enters : {seen' row' : List ℕ} → has row (get_or a at 0) ≡ false → meets seen (line_names (line_at (drop at a))) ≡ true
      → Inserted (get_or a at 0) seen seen' → Inserted (get_or a at 0) row row' → LineFollowed a at seen row seen' row' 1

-- the row has followers of c only, and what is seen is the row and c
pub record Seeks (page : Page) (c : ℕ) (seen row : List ℕ) : Type 0 where
  pub seen_is : (k : ℕ) → k < 512 → has seen k ≡ (has row k || eqb k c)
  pub only : (k : ℕ) → k < 512 → has row k ≡ true → Follows page k c

-- a pass over the lines: `new` conditions are new in the row; with none new, whoever names one that is seen is in the row
pub record PageFollowed (page : Page) (seen row seen' row' : List ℕ) (new : ℕ) : Type 0 where
  pub covers : Covers seen' row'
  pub seeks : (c : ℕ) → Seeks page c seen row → Seeks page c seen' row'
  pub counted : count 512 (has row') ≡ count 512 (has row) + new
  pub settled : new ≡ 0 → (a b : ℕ) → b < 512 → has seen' b ≡ true → names page a b ≡ true → has row' a ≡ true

-- the row of the followers of c
pub record FollowerRow (page : Page) (c : ℕ) (row : List ℕ) : Type 0 where
  pub row_size : length row ≡ 8
  pub exactly : (a : ℕ) → a < 512 → (has row a ≡ true) ↔ Follows page a c
