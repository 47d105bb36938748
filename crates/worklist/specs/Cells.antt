-- What the inner steps of a run leave in the cells (low, high, mark for each condition) of an area. Assumes nothing.
use Rattle.std.specs.Prelude.{◌≡◌, ◌≢◌, cond, ◌&&◌, List, ℕ, ◌*◌, ◌<◌, leb, length, drop, Option, None, Some}
use Rattle.semantics.specs.Page.{Page, names}
use Rattle.semantics.specs.RunArea.{interval_at, mark_at}

-- r is one of n conditions with mark 2, and none below it has it
pub record LowestAt (n : ℕ) (run : List ℕ) (r : ℕ) : Type 0 where
  pub within : r < n
  pub found : mark_at run r ≡ 2
  pub below : (k : ℕ) → k < r → mark_at run k ≢ 2

-- the lowest of n conditions with mark 2 is told, or nothing exactly if none has it
abbrev pub Lowest : ℕ → List ℕ → Option ℕ → Type 0
Lowest n run None = (k : ℕ) → k < n → mark_at run k ≢ 2
Lowest n run (Some r) = LowestAt n run r

-- every reached condition (mark 1 or 2) with an R line naming c has mark 2, and nothing else is changed
pub record DependantsMarked (page : Page) (c : ℕ) (run run' : List ℕ) : Type 0 where
  pub same_length : length run' ≡ length run
  pub intervals : (h : ℕ) → h < page.conditions → interval_at run' h ≡ interval_at run h
  pub marks : (h : ℕ) → h < page.conditions → mark_at run' h ≡ cond (leb 1 (mark_at run h) && names page h c) 2 (mark_at run h)
  pub beyond : drop (3 * page.conditions) run' ≡ drop (3 * page.conditions) run
