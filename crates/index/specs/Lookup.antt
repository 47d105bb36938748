-- What a look-up in an index gives. Assumes nothing.
use Rattle.std.specs.Prelude.{◌≡◌, true, Bool, List, ℕ, ◌-◌, ◌≤◌, ◌<◌, length, get_or, take, drop}
use Rattle.semantics.specs.Area.{page_of}
use Rattle.semantics.specs.Page.{names}
use Rattle.page.specs.Places.{LineOf}
use Rattle.index.specs.Readers.{lines_read}

-- the numbers of a page area, and whether there is an index of the page
pub record Sourced : Type 0 where
  pub area : List ℕ
  pub indexed : Bool

-- a list has exactly the numbers p with `Has p`
pub record Lists (Has : ℕ → Type 0) (items : List ℕ) : Type 0 where
  pub only : (j : ℕ) → j < length items → Has (get_or items j 0)
  pub every : (p : ℕ) → Has p → (j : ℕ) × (j < length items) × (get_or items j 0 ≡ p)

-- the places of the F and R lines of c
abbrev pub LinesAre : List ℕ → ℕ → List ℕ → Type 0
LinesAre a c = Lists (LineOf a c)

-- the heads of the rules that have the literal of a code
abbrev pub HeadsAre : List ℕ → ℕ → List ℕ → Type 0
HeadsAre a code = Lists (λ h. lines_read code (page_of a).lines h ≡ true)

-- the heads of the rules that name c: its dependants
abbrev pub DependantsAre : List ℕ → ℕ → List ℕ → Type 0
DependantsAre a c = Lists (λ h. names (page_of a) h c ≡ true)

-- the groups of the keys from t up to t' lie in the items
pub record Between (t t' : ℕ) (starts items : List ℕ) : Type 0 where
  pub first : t < length starts
  pub last : t' < length starts
  pub ordered : get_or starts t 0 ≤ get_or starts t' 0
  pub inside : get_or starts t' 0 ≤ length items

abbrev pub items_between : (t t' : ℕ) → List ℕ → List ℕ → List ℕ
items_between t t' starts items = take (get_or starts t' 0 - get_or starts t 0) (drop (get_or starts t 0) items)
