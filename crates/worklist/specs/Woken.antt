-- What waking the first of the heads of a list leaves in a run area and in the set of those that wait. Assumes nothing.
use Rattle.std.specs.Prelude.{◌≡◌, ◌⊎◌, List, ℕ, ◌+◌, ◌*◌, ◌≤◌, ◌<◌, length, drop, get_or}
use Rattle.semantics.specs.RunArea.{interval_at, mark_at}
use Rattle.worklist.specs.Waiting.{WordsMatch}

-- h is one of the first k heads
abbrev pub Among : List ℕ → (k h : ℕ) → Type 0
Among heads k h = (j : ℕ) × (j < k) × (get_or heads j 0 ≡ h)

-- those heads are below n
abbrev pub HeadsBelow : ℕ → List ℕ → (k : ℕ) → Type 0
HeadsBelow n heads k = (j : ℕ) → j < k → get_or heads j 0 < n

-- the heads are conditions, and their cells lie within the run area
pub record HeadsIn (heads run : List ℕ) : Type 0 where
  pub few : HeadsBelow 512 heads (length heads)
  pub long : (j : ℕ) → j < length heads → 3 * get_or heads j 0 + 3 ≤ length run

-- every reached condition (mark 1 or 2) among the first k heads has mark 2, and nothing else is changed
pub record HeadsWoken (heads : List ℕ) (k : ℕ) (run run' : List ℕ) : Type 0 where
  pub same_length : length run' ≡ length run
  pub intervals : (h : ℕ) → interval_at run' h ≡ interval_at run h
  pub woken : (h : ℕ) → Among heads k h → 1 ≤ mark_at run h → mark_at run' h ≡ 2
  pub others : (h : ℕ) → (mark_at run' h ≡ mark_at run h) ⊎ ((mark_at run' h ≡ 2) × (1 ≤ mark_at run h) × Among heads k h)
  pub beyond : (n : ℕ) → HeadsBelow n heads k → drop (3 * n) run' ≡ drop (3 * n) run

-- a set that matched the marks matches them still
pub record SetKept (heads : List ℕ) (k : ℕ) (run words run' words' : List ℕ) : Type 0 where
  pub kept : (n : ℕ) → HeadsBelow n heads k → WordsMatch n run words → WordsMatch n run' words'
