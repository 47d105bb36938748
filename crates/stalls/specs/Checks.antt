-- What the tests before an operation on the shared area tell: the refusals in order, and what holds past them. Assumes nothing.
use Rattle.std.specs.Prelude.{◌≡◌, true, false, List, ℕ, ◌≤◌, length, Some, Result, Ok, Err}
use Rattle.refusal.specs.Numbers.{number_of}
use Rattle.refusal.specs.declared.Refusal.{Refusal}
use Rattle.refusal.specs.declared.Refusal.TheVariants.{RunNotSound}
use Rattle.semantics.specs.Area.{sound, page_of}
use Rattle.semantics.specs.Call.{refused}
use Rattle.semantics.specs.Operation.{refused_opening}
use Rattle.semantics.specs.RunArea.{run_sound}
use Rattle.semantics.specs.Stalls.{Stall as Run, beginning, shared_length, part_of, open_stall, evaluate_stall, refused_turn, turn_of}
use Rattle.run.specs.Answers.{Answered}
use Rattle.stalls.specs.Answers.{stall_of}
use Rattle.stalls.specs.declared.Stall.{Stall}
use Rattle.stalls.specs.declared.TurnError.{TurnError}

-- a cause for which every operation is refused, with no stall told, and leaves the shared area as it is
pub record Refuses (a area : List ℕ) (e : Refusal) : Type 0 where
  pub opening : (s : Run) (qs : List ℕ) → refused_opening (number_of e) ≡ (open_stall a s qs area).answer
  pub opening_leaves : (s : Run) (qs : List ℕ) → area ≡ (open_stall a s qs area).run
  pub evaluation : (s : Run) (c : ℕ) → Answered (evaluate_stall a s area c) (refused (number_of e)) area
  pub turn : (b : ℕ) → refused_turn (number_of e) 0 ≡ (turn_of a area b).answer
  pub turn_leaves : (b : ℕ) → area ≡ (turn_of a area b).area

-- 10 and 60
abbrev pub SharedChecked : List ℕ → List ℕ → Result (List ℕ) Refusal → Type 0
SharedChecked a area (Ok page) = (page ≡ a) × (sound a ≡ true) × (shared_length (page_of a) ≤ length area)
SharedChecked a area (Err e) = Refuses a area e

-- the same, with where the part of a stall begins
abbrev pub PartPlaced : List ℕ → Stall → List ℕ → Result (List ℕ × ℕ) Refusal → Type 0
PartPlaced a s area (Ok (page, at)) = (page ≡ a) × (sound a ≡ true) × (shared_length (page_of a) ≤ length area) × (at ≡ beginning (page_of a) (stall_of s))
PartPlaced a s area (Err e) = Refuses a area e

-- 14, with the stall
abbrev pub PartChecked : {U : Type 0} → List ℕ → Stall → List ℕ → Result U TurnError → Type 0
PartChecked a s area (Ok u) = run_sound (page_of a) (part_of (page_of a) (stall_of s) area) ≡ true
PartChecked a s area (Err e) = (e ≡ record { cause = RunNotSound; stall = Some s }) × (run_sound (page_of a) (part_of (page_of a) (stall_of s) area) ≡ false)
