-- What reading a list answers, and what it leaves. Assumes nothing.
use Rattle.std.specs.Prelude.{◌≡◌, List, ◌++◌, ℕ, ◌*◌, ◌≤◌, length, drop, Result, Ok, Err}
use Rattle.std.proofs.Math.Option.{none, some}
use Rattle.semantics.specs.Text.{text_lines}
use Rattle.semantics.specs.Trials.{trial_lines_in}
use Rattle.list.specs.Codes.{list_codes}
use Rattle.list.specs.Checks.{refusal, bad_in}
use Rattle.list.specs.declared.Refusal.{Refusal}
use Rattle.list.specs.Causes.{number_of}

-- a refused list: the first bad line, the number of its first cause, and nothing is written
pub record ListRefused (bytes : List ℕ) (top n number line : ℕ) (list list' : List ℕ) : Type 0 where
  pub told : bad_in bytes top n ≡ some (refusal number line)
  pub same : list' ≡ list

-- a list of k lines that is read: the numbers of its lines stand at the front, and what lies behind them stays
pub record ListRead (bytes : List ℕ) (top n k : ℕ) (list list' : List ℕ) : Type 0 where
  pub good : bad_in bytes top n ≡ none
  pub count : k ≡ length (trial_lines_in (text_lines bytes))
  pub few : k ≤ 1024
  pub written : list' ≡ list_codes (trial_lines_in (text_lines bytes)) ++ drop (4 * k) list

abbrev pub ListAs : (bytes : List ℕ) (top n : ℕ) (list list' : List ℕ) → Result ℕ Refusal → Type 0
ListAs bytes top n list list' (Err r) = ListRefused bytes top n (number_of r.cause) r.line list list'
ListAs bytes top n list list' (Ok k) = ListRead bytes top n k list list'
