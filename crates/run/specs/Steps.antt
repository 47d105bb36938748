-- The evaluations of a drive, and the line of the last one. Assumes nothing.
use Rattle.std.specs.Prelude.{◌≡◌, Bool, true, List, ℕ, ◌*◌, ◌≤◌, ◌<◌, length, Option, None, Some}
use Rattle.semantics.specs.Area.{page_of, top_of, conditions_of}
use Rattle.std.proofs.Math.Option.{none}
use Rattle.semantics.specs.Call.{drive, drove, outcome}
use Rattle.semantics.specs.Grade.{lower}
use Rattle.semantics.specs.Operation.{Left, left_as}
use Rattle.semantics.specs.RunArea.{interval_at, worklist_of, reached_of, run_sound}
use Rattle.value.specs.Table.{EndTable}
use Rattle.step.specs.Before.{ToldBefore}
use Rattle.step.specs.declared.Before.{Before}
use Rattle.run.specs.Answers.{Answered, Drives, status_if}

-- what a drive that nothing refuses answers and leaves
unfoldable pub drive_left : (a run : List ℕ) → (allowance : ℕ) → Left
drive_left a run k = left_as none (page_of a) run (outcome (page_of a) (reached_of (page_of a) run) (worklist_of (page_of a) run) (drive k))

-- what was held before an evaluation is of a condition of the page, and grades
pub record InGrades (a : List ℕ) (b : Before) : Type 0 where
  pub inside : b.condition < conditions_of a
  pub low_in : b.ends.low ≤ top_of a
  pub high_in : b.ends.high ≤ top_of a

-- the same of the last evaluation, if there is one
abbrev pub LastInGrades : List ℕ → Option Before → Type 0
LastInGrades a None = Unit {0}
LastInGrades a (Some b) = InGrades a b

-- after the evaluations the table holds the run area; `before` is what was held before the last of them, if there is one
pub record Ready (a run values : List ℕ) (before : Option Before) : Type 0 where
  pub run_sound : run_sound (page_of a) run ≡ true
  pub long : 2 * conditions_of a ≤ length values
  pub table : EndTable lower (top_of a) (conditions_of a) (interval_at run) values
  pub last : LastInGrades a before

-- the line of the last evaluation, 0 if there is none
abbrev pub LastLine : List ℕ → List ℕ → Option Before → ℕ → Type 0
LastLine a run None line = line ≡ 0
LastLine a run (Some b) line = ToldBefore a run b.condition b.ends.low b.ends.high line

-- a drive stops: the count, the rest and the run area are the operation's, and with the line of the last evaluation so is the answer
pub record Stopped (a run : List ℕ) (allowance : ℕ) (run' values' : List ℕ) (taken : ℕ) (rest : Bool) (before : Option Before) : Type 0 where
  pub ready : Ready a run' values' before
  pub drives : Drives (drive_left a run allowance) taken rest run'
  pub answers : (line : ℕ) → LastLine a run' before line → Answered (drive_left a run allowance) (drove taken line (status_if rest)) run'
