-- What counting the rounds asks and answers. Assumes nothing.
use Rattle.std.specs.Prelude.{◌≡◌, Bool, true, List, ℕ, ◌*◌, ◌≤◌, ◌<◌, length, drop}
use Rattle.fixpoint.specs.ChaoticIteration.{DependencyClosed}
use Rattle.semantics.specs.Area.{page_of, top_of, conditions_of}
use Rattle.semantics.specs.Body.{T, unknown_by_default}
use Rattle.semantics.specs.Page.{names}
use Rattle.semantics.specs.Rounds.{IsRoundCount}
use Rattle.semantics.specs.Table.{member}
use Rattle.settle.specs.Scratch.{held}
use Rattle.rounds.specs.Round.{closed_at}

-- the scratch holds the closed reading of what is marked, and what is marked names only what is marked
pub record CountReady (a : List ℕ) (m : List Bool) (s : List ℕ) : Type 0 where
  pub long : 4 * conditions_of a ≤ length s
  pub marked : conditions_of a ≤ length m
  pub shut : DependencyClosed (conditions_of a) (names (page_of a)) (member m)
  pub reads_closed : (c : ℕ) → c < conditions_of a → member m c ≡ true → held (conditions_of a) s c ≡ closed_at a c

-- k is the count of rounds on what is marked
pub record Counted (a : List ℕ) (m : List Bool) (s s' : List ℕ) (k : ℕ) : Type 0 where
  pub same_length : length s' ≡ length s
  pub beyond : drop (4 * conditions_of a) s' ≡ drop (4 * conditions_of a) s
  pub is_count : IsRoundCount (conditions_of a) (top_of a) (T (page_of a)) (unknown_by_default (page_of a)) (member m) k
