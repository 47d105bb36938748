-- What a function over the lines requires of the areas lent, and what a body value is in the code's own terms. Assumes nothing.
use Rattle.std.specs.Prelude.{◌≡◌, true, List, ℕ, ◌*◌, ◌+◌, ◌≤◌, ◌<◌, length, get_or, take, drop}
use Rattle.fixpoint.specs.Interval.{Within}
use Rattle.semantics.specs.Area.{every, line_tests, all_under, page_of, top_of}
use Rattle.semantics.specs.Body.{T}
use Rattle.semantics.specs.RunArea.{interval_at}

-- A run area that an evaluation can start from: it is long enough for n conditions, and each holds two grades. `top` and n are in range.
pub record Graded (top n : ℕ) (run : List ℕ) : Type 0 where
  pub some : 1 ≤ top
  pub small : top ≤ 200
  pub few : n ≤ 512
  pub long : 3 * n ≤ length run
  pub within : (c : ℕ) → c < n → Within top (interval_at run c)

-- A rule's entry stands at a place, every field in range; its kind is 1 to 5.
pub record RuleAt (top n : ℕ) (a : List ℕ) (at : ℕ) : Type 0 where
  pub least : 1 ≤ get_or a (at + 1) 0
  pub most : get_or a (at + 1) 0 ≤ 5
  pub fits : at + 4 + get_or a (at + 3) 0 ≤ length a
  pub some : 1 ≤ get_or a (at + 3) 0
  pub few : get_or a (at + 3) 0 ≤ 8
  pub weight : get_or a (at + 2) 0 ≤ top
  pub literals : all_under (2 * n) (take (get_or a (at + 3) 0) (drop (at + 4) a)) ≡ true

-- The entry at a place passes every test of soundness, within the next `left` numbers.
pub record SoundEntry (top n left : ℕ) (a : List ℕ) (at : ℕ) : Type 0 where
  pub fits : at + left ≤ length a
  pub four : 4 ≤ left
  pub tests : every (line_tests top n left (drop at a)) ≡ true

-- The two numbers are the body value T of c at the intervals held, and both of its ends are grades.
pub record BodyValue (a run : List ℕ) (c low high : ℕ) : Type 0 where
  pub low_in : low ≤ top_of a
  pub high_in : high ≤ top_of a
  pub is : record { low = low; high = high } ≡ T (page_of a) (interval_at run) c
