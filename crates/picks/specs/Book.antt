-- The book of a run in local memory: a table of the low end of every literal, as a drive holds it, and two sets of conditions. Assumes nothing.
use Rattle.std.specs.Prelude.{◌≡◌, Bool, false, List, ℕ, ◌*◌, ◌≤◌, ◌<◌, length}
use Rattle.fixpoint.specs.Interval.{Within}
use Rattle.semantics.specs.Area.{page_of, top_of, conditions_of}
use Rattle.semantics.specs.Grade.{lower}
use Rattle.semantics.specs.Table.{member, interval_of}
use Rattle.semantics.specs.Worklist.{Worklist, evaluated}
use Rattle.bits.specs.Words.{has}
use Rattle.value.specs.Table.{EndTable}

-- a set of conditions as words: those of m, which are below n
pub record SetIs (n : ℕ) (m : List Bool) (words : List ℕ) : Type 0 where
  pub is : (c : ℕ) → c < 512 → has words c ≡ member m c
  pub inside : (c : ℕ) → n ≤ c → member m c ≡ false

-- the table and the two sets hold the book b, where m is the set of the reached conditions
pub record Holds (a : List ℕ) (m : List Bool) (b : Worklist) (reached waiting values : List ℕ) : Type 0 where
  pub reached_set : SetIs (conditions_of a) m reached
  pub waiting_set : SetIs (conditions_of a) b.waiting waiting
  pub long : 2 * conditions_of a ≤ length values
  pub table : EndTable lower (top_of a) (conditions_of a) (interval_of b.intervals) values
  pub grades : (c : ℕ) → c < conditions_of a → Within (top_of a) (interval_of b.intervals c)
  pub pairs : length b.intervals ≡ conditions_of a

-- they hold some book
pub record HoldSome (a reached waiting values : List ℕ) : Type 0 where
  pub set : List Bool
  pub book : Worklist
  pub holds : Holds a set book reached waiting values

-- an evaluation of c makes of every book held the book after it
pub record Evaluates (a : List ℕ) (c : ℕ) (reached waiting values waiting' values' : List ℕ) : Type 0 where
  pub size : length values' ≡ length values
  pub kept : (m : List Bool) (b : Worklist) → Holds a m b reached waiting values → Holds a m (evaluated (page_of a) m b c) reached waiting' values'
