-- Document 01, "The book of a run": the state of a run and its steps. Assumes nothing.
-- It is fed the page, the reached conditions and each call's condition or allowance, and nothing from a run area or an answer.
-- The same steps say what an operation does on a run area, read as such a state.
use Rattle.std.specs.Prelude.{Bool, true, false, not, ◌&&◌, ◌||◌, List, [], ◌∷◌, ℕ, zero, suc, eqb, set}
use Rattle.std.proofs.Math.Option.{Option, none, some}
use Rattle.fixpoint.specs.Interval.{Interval, same}
use Rattle.semantics.specs.Page.{Page, names}
use Rattle.semantics.specs.Body.{T}
use Rattle.semantics.specs.Holding.{line_holding}
use Rattle.semantics.specs.Table.{table, member, interval_of, all_unknown}

-- the book: "a pair for each condition and which conditions wait"
pub record Worklist : Type 0 where
  pub intervals : List Interval
  pub waiting : List Bool

-- In what follows m is the set of the reached conditions.

-- "At the start every pair is [0;top] and exactly the reached conditions wait."
unfoldable pub start : Page → List Bool → Worklist
start page m = record { intervals = all_unknown page.conditions page.top; waiting = m }

-- whether T of the pairs differs from the pair of A, at either end
unfoldable pub changes : Page → Worklist → ℕ → Bool
changes page b A = not (same (interval_of b.intervals A) (T page (interval_of b.intervals) A))

-- "A waits no longer"; if that changed the pair, "every reached condition with an R line naming A waits, A too if it names itself"
unfoldable pub waiting_after : Page → List Bool → Bool → List Bool → ℕ → List Bool
waiting_after page m changed w A =
    table page.conditions (λ c. (member w c && not (eqb c A)) || (changed && (member m c && names page c A)))

-- "Evaluate A, where A waits": its pair becomes T of the pairs
unfoldable pub evaluated : Page → List Bool → Worklist → ℕ → Worklist
evaluated page m b A =
    record {
      intervals = set b.intervals A (T page (interval_of b.intervals) A);
      waiting = waiting_after page m (changes page b A) b.waiting A;
    }

-- which line holds the low end of T of the pairs, at A: what the evaluation of A tells, on the pairs held before it
abbrev pub holder : Page → Worklist → ℕ → ℕ
holder page b A = line_holding page (interval_of b.intervals) A

-- the lowest waiting condition
unfoldable pub lowest_from : ℕ → List Bool → Option ℕ
lowest_from k [] = none
lowest_from k (true ∷ w) = some k
lowest_from k (false ∷ w) = lowest_from (suc k) w

abbrev pub lowest : Worklist → Option ℕ
lowest b = lowest_from 0 b.waiting

-- `rest` if none waits, else `spent`
pub data Status : Type 0 where
  rest spent : Status

abbrev pub status_as : Option ℕ → Status
status_as none = rest
status_as (some c) = spent

abbrev pub status : Worklist → Status
status b = status_as (lowest b)

-- Drive: "the lowest waiting condition is evaluated, until none waits or the allowance is used"; with the count of evaluations, and the
-- line that the last of them told, "0 if it took none"
pub record Driven : Type 0 where
  pub taken : ℕ
  pub line : ℕ
  pub state : Worklist

-- what the last evaluation told, of one and so many behind it
abbrev pub last_of : (behind : ℕ) → (line later : ℕ) → ℕ
last_of zero line later = line
last_of (suc k) line later = later

-- a drive with one evaluation more, before the others
abbrev pub one_more : (line : ℕ) → Driven → Driven
one_more line d = record { taken = suc d.taken; line = last_of d.taken line d.line; state = d.state }

unfoldable pub drive_from : Page → List Bool → ℕ → Option ℕ → Worklist → Driven
drive_from page m zero o b = record { taken = 0; line = 0; state = b }
drive_from page m (suc k) none b = record { taken = 0; line = 0; state = b }
drive_from page m (suc k) (some A) b = let b' = evaluated page m b A in one_more (holder page b A) (drive_from page m k (lowest b') b')

abbrev pub driven : Page → List Bool → ℕ → Worklist → Driven
driven page m k b = drive_from page m k (lowest b) b
