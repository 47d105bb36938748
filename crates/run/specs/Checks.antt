-- What the tests before an operation on a run area tell: the refusals in order, and what holds past them. Assumes nothing.
use Rattle.std.specs.Prelude.{◌≡◌, true, false, List, ℕ, ◌≤◌, ◌<◌, Result, Ok, Err}
use Rattle.refusal.specs.Numbers.{number_of}
use Rattle.refusal.specs.declared.Refusal.{Refusal}
use Rattle.refusal.specs.declared.Refusal.TheVariants.{PageNotSound, RunNotSound, ConditionOutOfRange}
use Rattle.semantics.specs.Area.{sound, page_of, conditions_of}
use Rattle.semantics.specs.Call.{Call, refused}
use Rattle.semantics.specs.Operation.{operation, value_of, line_held_of, drive_workspace}
use Rattle.semantics.specs.RunArea.{mark_at, run_sound}
use Rattle.run.specs.Answers.{Answered}

-- 10
abbrev pub PageChecked : List ℕ → Result (List ℕ) Refusal → Type 0
PageChecked a (Ok page) = (page ≡ a) × (sound a ≡ true)
PageChecked a (Err e) = (e ≡ PageNotSound) × (sound a ≡ false)

-- 14
abbrev pub RunChecked : {U : Type 0} → List ℕ → List ℕ → Result U Refusal → Type 0
RunChecked a r (Ok u) = run_sound (page_of a) r ≡ true
RunChecked a r (Err e) = (e ≡ RunNotSound) × (run_sound (page_of a) r ≡ false)

-- a cause for which every operation on the run area is refused, and leaves the run area and a workspace as they are
pub record Refuses (a r : List ℕ) (e : Refusal) : Type 0 where
  pub answers : (k : Call) → Answered (operation a r k) (refused (number_of e)) r
  pub workspace : (w : List ℕ) → w ≡ drive_workspace a r w

-- 10 and 14
abbrev pub AreasChecked : List ℕ → List ℕ → Result (List ℕ) Refusal → Type 0
AreasChecked a r (Ok page) = (page ≡ a) × (sound a ≡ true) × (run_sound (page_of a) r ≡ true)
AreasChecked a r (Err e) = Refuses a r e

-- 15
abbrev pub InPage : List ℕ → ℕ → Result ℕ Refusal → Type 0
InPage a n (Ok c) = (c ≡ n) × (n < conditions_of a)
InPage a n (Err e) = (e ≡ ConditionOutOfRange) × (conditions_of a ≤ n)

-- a condition that value and line held tell of
pub record Readable (a r : List ℕ) (c : ℕ) : Type 0 where
  pub page_sound : sound a ≡ true
  pub run_sound : run_sound (page_of a) r ≡ true
  pub inside : c < conditions_of a
  pub reached : 0 < mark_at r c

-- 10, 14, 15 and 17, which refuse value and line held alike
abbrev pub Reading : List ℕ → List ℕ → ℕ → Result (List ℕ × ℕ) Refusal → Type 0
Reading a r n (Ok (page, c)) = (page ≡ a) × (c ≡ n) × Readable a r n
Reading a r n (Err e) = (refused (number_of e) ≡ value_of a r n) × (refused (number_of e) ≡ line_held_of a r n)
