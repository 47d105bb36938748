-- What the functions that write the parts of the output require and leave. Assumes nothing.
use Rattle.std.specs.Prelude.{◌≡◌, ◌≢◌, true, List, [], ◌∷◌, ◌++◌, ℕ, ◌+◌, ◌*◌, ◌/◌, ◌%◌, ◌≤◌, ◌<◌, length, get_or, take, drop, Result, Ok, Err, MatchOption}
use Rattle.std.specs.Prelude as code
use Rattle.std.specs.Borrow.{Bor}
use Rattle.std.proofs.Math.Option.{Option, none, some}
use Rattle.print.specs.declared.Text.{Text}
use Rattle.print.specs.Texts.{Puts}
use Rattle.semantics.specs.Area.{sound, page_of, top_of, conditions_of}
use Rattle.semantics.specs.Output.{queries_of, Answers, AreAnswers, top_fields, printed}
use Rattle.semantics.specs.Page.{Page}
use Rattle.semantics.specs.ReadPage as reading
use Rattle.semantics.specs.ReadPage.{or_else, text_refusal, page_read}
use Rattle.semantics.specs.Trials.{trials_of, list_refusal, list_read, changed_page, trial_answers, IsTrialsOutput}
use Rattle.change.specs.Trial.{lines_at, lines_in}
use Rattle.list.specs.Codes.{list_codes}
use Rattle.trial.specs.declared.Refusal.{Refusal}

-- a list of so many lines of four numbers, trial, condition, low, high, each in range
pub record ListIn (top n : ℕ) (list : List ℕ) (lines : ℕ) : Type 0 where
  pub few : lines ≤ 1024
  pub inside : 4 * lines ≤ length list
  pub number : (i : ℕ) → i < lines → get_or list (4 * i) 0 < 1000
  pub condition : (i : ℕ) → i < lines → get_or list (4 * i + 1) 0 < n
  pub ordered : (i : ℕ) → i < lines → get_or list (4 * i + 2) 0 ≤ get_or list (4 * i + 3) 0
  pub high : (i : ℕ) → i < lines → get_or list (4 * i + 3) 0 ≤ top

-- what reading a list leaves in its slice: a refusal leaves it as it is, an accepted list stands at its front
abbrev pub list_left : Option reading.Refusal → (bytes list : List ℕ) → List ℕ
list_left (some r) bytes list = list
list_left none bytes list = list_codes (list_read bytes) ++ drop (4 * length (list_read bytes)) list

-- a page and a list that are read: the list's numbers are in range, and its lines are those of the bytes
pub record BothRead (text bytes a list : List ℕ) (lines : ℕ) : Type 0 where
  pub accepted : text_refusal text ≡ none
  pub page_sound : sound a ≡ true
  pub page_is : page_of a ≡ page_read text
  pub list_accepted : list_refusal (page_of a) bytes ≡ none
  pub in_range : ListIn (top_of a) (conditions_of a) list lines
  pub same : lines_at lines list ≡ list_read bytes

-- the page is refused, or the list
pub record EitherRefused (text bytes : List ℕ) (number line : ℕ) : Type 0 where
  pub place : ℕ
  pub told : or_else (text_refusal text) (list_refusal (page_read text) bytes) ≡ some (record { number = number; line = line; place = place })
  pub number_few : number < 1000
  pub line_few : line < 10000

abbrev pub ReadAs : (text bytes a list : List ℕ) → Result ℕ Refusal → Type 0
ReadAs text bytes a list (Err r) = EitherRefused text bytes r.number r.line
ReadAs text bytes a list (Ok lines) = BothRead text bytes a list lines

-- both are read, and the first line is written
pub record BothBegun (text bytes a list : List ℕ) (t t' : Text) (lines : ℕ) : Type 0 where
  pub read : BothRead text bytes a list lines
  pub wrote : Puts t (printed (top_fields (top_of a) ∷ [])) t'

-- what is refused is the whole output
pub record OutputBegun (text bytes : List ℕ) (t t' : Text) : Type 0 where
  pub output : List ℕ
  pub is_output : IsTrialsOutput text bytes output
  pub wrote : Puts t output t'

abbrev pub BegunAs : (text bytes a list : List ℕ) → (t t' : Text) → Result ℕ Refusal → Type 0
BegunAs text bytes a list t t' (Err r) = OutputBegun text bytes t t'
BegunAs text bytes a list t t' (Ok lines) = BothBegun text bytes a list t t' lines

-- so many lines at the front of a list have one number, and the line behind them, if there is one, has another
pub record TrialEnd (list : List ℕ) (end : ℕ) : Type 0 where
  pub some : 0 < end
  pub within : 4 * end ≤ length list
  pub same : (i : ℕ) → i < end → get_or list (4 * i) 0 ≡ get_or list 0 0
  pub other : end < length list / 4 → get_or list (4 * end) 0 ≢ get_or list 0 0

-- a list is the lines of its first trial, and those of the others
pub record FirstTrial (list trial rest : List ℕ) : Type 0 where
  pub whole : list ≡ trial ++ rest
  pub some : 4 ≤ length trial
  pub full : length trial % 4 ≡ 0
  pub first : trials_of (lines_in list) ≡ record { number = get_or trial 0 0; lines = lines_in trial } ∷ trials_of (lines_in rest)

-- the first trial of a list is given, and the others are left; or there is none
abbrev pub GivesTrial : (list : List ℕ) → code.Option (Bor (List ℕ)) → (rest : List ℕ) → Type 0
GivesTrial list given rest = MatchOption given ((length list < 4) × (rest ≡ list)) (λ trial. FirstTrial list trial.now rest)

-- a trial with these lines is answered
pub record TrialPut (page : Page) (lines : List ℕ) (text text' : Text) (count : ℕ) : Type 0 where
  pub counted : count ≡ length (queries_of page.lines)
  pub few : count ≤ 1024
  pub bytes : List ℕ
  pub fits : length bytes ≤ 27648
  pub are : (A : Answers) → AreAnswers (changed_page page (lines_in lines)) A → bytes ≡ printed (trial_answers (get_or lines 0 0) A (queries_of page.lines))
  pub wrote : Puts text bytes text'

-- the bytes of the trials of a list, one after another, each in a text that begins with it, and how many answers they have
pub data AllPut (page : Page) : List ℕ → List ℕ → ℕ → Type 0 where
  no_more : {list : List ℕ} → length list < 4 → AllPut page list [] 0
  one_more : {list trial rest : List ℕ} {text text' : Text} {count : ℕ} {bytes : List ℕ} {k : ℕ} → FirstTrial list trial rest → text.at ≡ 0 → TrialPut page trial text text' count
      → AllPut page rest bytes k → AllPut page list (take text'.at text'.out.now ++ bytes) (count + k)
