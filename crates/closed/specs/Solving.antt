-- The closed reading solved in the scratch. Assumes nothing.
use Rattle.std.specs.Prelude.{◌≡◌, Bool, true, List, ◌++◌, ℕ, ◌+◌, ◌*◌, ◌≤◌, ◌<◌, length, get_or, drop}
use Rattle.fixpoint.specs.Interval.{Assign}
use Rattle.semantics.specs.Area.{page_of, conditions_of, all_under}
use Rattle.semantics.specs.Operation.{ends}
use Rattle.semantics.specs.Rounds.{IsRounds}
use Rattle.rounds.specs.Round.{closed_at}

-- the interval that a table of ends holds: the low end of c stands at `step` × c, and the high end `gap` numbers behind it
abbrev pub ends_at : (table : List ℕ) (step gap : ℕ) → Assign
ends_at table step gap c = record { low = get_or table (step * c) 0; high = get_or table (gap + step * c) 0 }

-- nothing is known: every interval is [0;top]
pub record Begun (n top : ℕ) (s s' : List ℕ) : Type 0 where
  pub same_length : length s' ≡ length s
  pub lows : (c : ℕ) → c < n → get_or s' (2 * c) 0 ≡ 0
  pub highs : (c : ℕ) → c < n → get_or s' (2 * n + 2 * c) 0 ≡ top
  pub beyond : drop (4 * n) s' ≡ drop (4 * n) s

-- the closed reading can be solved, and there is room for its answers
pub record SolveReady (a qs s w : List ℕ) : Type 0 where
  pub under : all_under (conditions_of a) qs ≡ true
  pub long : 4 * conditions_of a ≤ length s
  pub room : 2 * length qs ≤ length w

-- the answers are those of the closed reading, and the count is the count of rounds if it is asked for
pub record Solved (a qs s w s' w' : List ℕ) (counting : Bool) (k : ℕ) : Type 0 where
  pub same_length : length s' ≡ length s
  pub beyond : drop (4 * conditions_of a) s' ≡ drop (4 * conditions_of a) s
  pub written : w' ≡ ends (closed_at a) qs ++ drop (2 * length qs) w
  pub rounds : counting ≡ true → IsRounds (page_of a) qs k
