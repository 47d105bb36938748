-- What the two passes over a list hand back and write. Assumes nothing.
use Rattle.std.specs.Prelude.{◌≡◌, true, List, [], ◌∷◌, ◌++◌, ℕ, ◌+◌, ◌-◌, ◌≤◌, ltb, length, get_or, take, drop, Result, Ok, Err}
use Rattle.std.proofs.Math.Option.{Option, none, some}
use Rattle.semantics.specs.Call.{Cause, cause, first_of}
use Rattle.semantics.specs.Text.{text_lines, fields_of}
use Rattle.semantics.specs.ReadPage.{Refusal}
use Rattle.semantics.specs.Trials.{TrialLine, is_trial, trial_in, line_end, trial_range_causes, trial_causes, bad_trial, trial_lines_in}
use Rattle.fields.specs.Cursor.{fields_at, lines_after}
use Rattle.list.specs.Codes.{list_codes}
use Rattle.list.specs.Lines.{line_at}
use Rattle.list.specs.declared.Cause.{Cause as Why}
use Rattle.list.specs.declared.Refusal.{Refusal as Refused}
use Rattle.list.specs.declared.parse.Known.{Known}
use Rattle.list.specs.Causes.{number_of}

-- the causes of 41, and the cause of 42 where `before` is the trial of the line before
abbrev pub range_causes : (top n : ℕ) → TrialLine → List Cause
range_causes top n t = take 4 (trial_range_causes top n 0 t)

abbrev pub order_causes : (before trial : ℕ) → List Cause
order_causes before trial = cause (ltb trial before) 42 ∷ []

-- a text whose last byte is 10, or an empty one
abbrev pub Ended : List ℕ → Type 0
Ended s = get_or s (length s - 1) 10 ≡ 10

-- what is wrong with the line at a place of an ended text, if it is not line 1,025
unfoldable pub fault_in : List ℕ → (at before top n : ℕ) → Option ℕ
fault_in s at before top n = first_of (trial_causes top n (length s) 0 at before (line_at s at))

-- a good line: its trial, and the place where the next line begins, behind its byte 10
pub record LineGood (s : List ℕ) (at before top n trial next : ℕ) : Type 0 where
  pub good : fault_in s at before top n ≡ none
  pub is : (trial_in (fields_at (drop at s))).trial ≡ trial
  pub lines : lines_after (drop at s) ≡ text_lines (drop next s)
  pub end : next ≡ line_end at (line_at s at)
  pub near : next ≤ 65535
  pub inside : next ≤ length s

abbrev pub CheckedLine : List ℕ → (at before top n : ℕ) → Result Known Why → Type 0
CheckedLine s at before top n (Ok k) = LineGood s at before top n k.line.trial k.next
CheckedLine s at before top n (Err c) = fault_in s at before top n ≡ some (number_of c)

-- a refusal, which has no place
abbrev pub refusal : ℕ → ℕ → Refusal
refusal number line = record { number = number; line = line; place = 0 }

-- The k lines of an ended text are good: behind them, what is wrong with a list is what is wrong with its other lines.
pub record LinesGood (s : List ℕ) (top n k : ℕ) : Type 0 where
  pub before : ℕ
  pub rest : (size : ℕ) (ls : List (List ℕ)) → length s ≤ size → bad_trial top n size 1 0 0 (text_lines s ++ ls) ≡ bad_trial top n size (k + 1) (length s) before ls
  pub count : k ≡ length (text_lines s)
  pub few : k ≤ 1024

-- the lines of an ended text, whatever lines follow them in a list of `size` bytes
abbrev pub LinesAs : List ℕ → (top n : ℕ) → Result ℕ Refused → Type 0
LinesAs s top n (Ok k) = LinesGood s top n k
LinesAs s top n (Err r) = (size : ℕ) (ls : List (List ℕ)) → length s ≤ size → bad_trial top n size 1 0 0 (text_lines s ++ ls) ≡ some (refusal (number_of r.cause) r.line)

-- the first `end` bytes end with the last byte 10, and the bytes behind them form one line, if there are any
pub record EndedPart (s : List ℕ) (end : ℕ) : Type 0 where
  pub inside : end ≤ length s
  pub ended : Ended (take end s)
  pub line : line_at s end ≡ drop end s

-- what is wrong with a list
abbrev pub bad_in : List ℕ → (top n : ℕ) → Option Refusal
bad_in s top n = bad_trial top n (length s) 1 0 0 (text_lines s)

-- an accepted list of k lines
pub record Accepted (s : List ℕ) (top n k : ℕ) : Type 0 where
  pub good : bad_in s top n ≡ none
  pub count : k ≡ length (text_lines s)
  pub few : k ≤ 1024
  pub ended : Ended s

abbrev pub CheckedAs : List ℕ → (top n : ℕ) → Result ℕ Refused → Type 0
CheckedAs s top n (Ok k) = Accepted s top n k
CheckedAs s top n (Err r) = bad_in s top n ≡ some (refusal (number_of r.cause) r.line)

-- every line has the form
abbrev pub AllTrials : List (List ℕ) → Type 0
AllTrials [] = Unit {0}
AllTrials (l ∷ ls) = (is_trial (fields_of l) ≡ true) × AllTrials ls

-- the numbers of the lines from a place on
abbrev pub codes_from : List ℕ → ℕ → List ℕ
codes_from s from = list_codes (trial_lines_in (text_lines (drop from s)))

-- the lines from a place on have the form, and there is room for their numbers
pub record LinesFit (s : List ℕ) (from : ℕ) (list : List ℕ) (end : ℕ) : Type 0 where
  pub forms : AllTrials (text_lines (drop from s))
  pub ended : Ended s
  pub room : end + length (codes_from s from) ≤ length list
