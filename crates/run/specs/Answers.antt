-- The answers of evaluate, drive, value and line held in document 01's words. Assumes nothing.
use Rattle.std.specs.Prelude.{◌≡◌, Bool, true, false, cond, List, ℕ, Result, Ok, Err}
use Rattle.refusal.specs.Numbers.{number_of}
use Rattle.refusal.specs.declared.Refusal.{Refusal}
use Rattle.semantics.specs.Call.{Answer, refused, unchanged, changed, drove, valued, held_by}
use Rattle.semantics.specs.Operation.{Left}
use Rattle.semantics.specs.Worklist.{Status, rest, spent}
use Rattle.run.specs.declared.Told.{Told}
use Rattle.run.specs.declared.Held.{Held}
use Rattle.run.specs.declared.Drove.{Drove}

-- the number of a refusal, or unchanged or changed, with the line
abbrev pub evaluate_answer_of : Result Told Refusal → Answer
evaluate_answer_of (Err e) = refused (number_of e)
evaluate_answer_of (Ok t) = cond t.changed changed unchanged t.line

-- at rest or not
abbrev pub status_if : Bool → Status
status_if true = rest
status_if false = spent

-- the number of a refusal, or the interval and whether the whole run is at rest
abbrev pub value_answer_of : Result Held Refusal → Answer
value_answer_of (Err e) = refused (number_of e)
value_answer_of (Ok h) = valued (record { low = h.low; high = h.high }) (status_if h.rest)

-- the number of a refusal, or the line
abbrev pub line_answer_of : Result ℕ Refusal → Answer
line_answer_of (Err e) = refused (number_of e)
line_answer_of (Ok l) = held_by l

-- the count taken, the line and `rest` or `spent`
abbrev pub drove_of : Drove → Answer
drove_of d = drove d.taken d.line (status_if d.rest)

-- the number of a refusal, or what the drive took and told
abbrev pub drive_answer_of : Result Drove Refusal → Answer
drive_answer_of (Err e) = refused (number_of e)
drive_answer_of (Ok d) = drove_of d

-- an operation answers so and leaves the run area so
pub record Answered (left : Left) (answer : Answer) (run : List ℕ) : Type 0 where
  pub answer_is : answer ≡ left.answer
  pub run_is : run ≡ left.run

-- a drive takes so many evaluations, is then at rest or not, and leaves the run area so, whichever line it tells
pub record Drives (left : Left) (taken : ℕ) (rest : Bool) (run : List ℕ) : Type 0 where
  pub line : ℕ
  pub answered : Answered left (drove taken line (status_if rest)) run
