-- Document 02, ticket 11: the stalls and what a turn answers, in its words; a drive of one stall's part. Assumes nothing.
use Rattle.std.specs.Prelude.{◌≡◌, Bool, List, ℕ, Option, None, Some, Result, Ok, Err}
use Rattle.refusal.specs.Numbers.{number_of}
use Rattle.semantics.specs.Area.{page_of}
use Rattle.semantics.specs.Operation.{drive_of}
use Rattle.semantics.specs.Stalls.{Stall as Run, first, second, part_of, with_part, Told, TurnAnswer as Answer, refused_turn, turned, DroveAs}
use Rattle.run.specs.Answers.{status_if}
use Rattle.run.specs.declared.Counted.{Counted}
use Rattle.stalls.specs.declared.Stall.{Stall}
use Rattle.stalls.specs.declared.Stall.TheVariants.{First, Second}
use Rattle.stalls.specs.declared.Turned.{Turned}
use Rattle.stalls.specs.declared.TurnError.{TurnError}

abbrev pub stall_of : Stall → Run
stall_of First = first
stall_of Second = second

-- the number of a stall, and 0 where there is nothing to tell
abbrev pub number_of_stall : Stall → ℕ
number_of_stall First = 1
number_of_stall Second = 2

abbrev pub stall_told : Option Stall → ℕ
stall_told None = 0
stall_told (Some s) = number_of_stall s

-- the count taken, and whether the stall rests
abbrev pub told_of : Counted → Told
told_of d = record { count = d.taken; rests = status_if d.rest }

-- what the first and the second are told
abbrev pub turned_of : Turned → Answer
turned_of t = turned (told_of t.first) (told_of t.second)

-- the number of a refusal and the stall, or what both are told
abbrev pub turn_answer_of : Result Turned TurnError → Answer
turn_answer_of (Err e) = refused_turn (number_of e.cause) (stall_told e.stall)
turn_answer_of (Ok t) = turned_of t

-- a drive of the part of s takes so many evaluations and rests or not, whichever line it tells, and leaves the shared area with that part as it is then
pub record PartDrives (a : List ℕ) (s : Run) (area : List ℕ) (allowance taken : ℕ) (rest : Bool) (area' : List ℕ) : Type 0 where
  pub tells : DroveAs (record { count = taken; rests = status_if rest }) (drive_of a (part_of (page_of a) s area) allowance).answer
  pub area_is : area' ≡ with_part (page_of a) s area (drive_of a (part_of (page_of a) s area) allowance).run
