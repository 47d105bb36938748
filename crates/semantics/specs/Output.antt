-- Document 01, "The program `attach`": what it prints for a text. Assumes nothing.
use Rattle.std.specs.Prelude.{◌≡◌, cond, List, [], ◌∷◌, ◌++◌, map, ℕ, leb, length, drop}
use Rattle.std.proofs.Math.Option.{Option, none, some}
use Rattle.fixpoint.specs.Interval.{Interval, Assign}
use Rattle.semantics.specs.Page.{Reading, K, W, Line, fact, rule, query, default, Page}
use Rattle.semantics.specs.Reading.{IsPlain, IsClosed}
use Rattle.semantics.specs.ReadPage.{Refusal, text_refusal, page_read}
use Rattle.semantics.specs.Fields.{number_text, reading_letter, joined, ended_lines}

-- a Q line: "the reading is `K` (plain) or `W` (closed)", and a condition
pub record Query : Type 0 where
  pub reading : Reading
  pub condition : ℕ

-- the Q lines, "in page order"
unfoldable pub queries_of : List Line → List Query
queries_of [] = []
queries_of (fact c l h ∷ ls) = queries_of ls
queries_of (rule c w op lits ∷ ls) = queries_of ls
queries_of (query r c ∷ ls) = record { reading = r; condition = c } ∷ queries_of ls
queries_of (default c ∷ ls) = queries_of ls

-- The answers of a page: its plain and its closed reading.
abbrev pub IsReading : Reading → Page → Assign → Type 0
IsReading K page = IsPlain page
IsReading W page = IsClosed page

abbrev pub Answers : Type 0
Answers = Reading → Assign

abbrev pub AreAnswers : Page → Answers → Type 0
AreAnswers page A = (r : Reading) → IsReading r page (A r)

-- The printed lines, by their fields: "`top,` and the top",
abbrev pub top_fields : ℕ → List (List ℕ)
top_fields top = (116 ∷ 111 ∷ 112 ∷ []) ∷ number_text top ∷ []

-- "reading, condition, low, high",
abbrev pub answer_fields : Query → Interval → List (List ℕ)
answer_fields q p = (reading_letter q.reading ∷ []) ∷ number_text q.condition ∷ number_text p.low ∷ number_text p.high ∷ []

-- "`end,` and the count of Q lines",
abbrev pub end_fields : ℕ → List (List ℕ)
end_fields count = (101 ∷ 110 ∷ 100 ∷ []) ∷ number_text count ∷ []

-- "`refused,number,line`": "the program prints its refused line as before", without a place
abbrev pub refusal_fields : ℕ → ℕ → List (List ℕ)
refusal_fields number line = (114 ∷ 101 ∷ 102 ∷ 117 ∷ 115 ∷ 101 ∷ 100 ∷ []) ∷ number_text number ∷ number_text line ∷ []

-- "Every printed line ends with byte 10."
abbrev pub printed : List (List (List ℕ)) → List ℕ
printed lines = ended_lines (map joined lines)

abbrev pub answer_lines : Answers → List Query → List (List (List ℕ))
answer_lines A qs = map (λ q. answer_fields q (A q.reading q.condition)) qs

-- "prints `top,` and the top; then per Q line, in page order, reading, condition, low, high; then `end,` and the count of Q lines"
unfoldable pub page_output : Page → Answers → List ℕ
page_output page A =
    let qs = queries_of page.lines in
    printed ((top_fields page.top ∷ answer_lines A qs) ++ (end_fields (length qs) ∷ []))

-- What is printed for a page that is read: the page has answers, and they are printed. (It has exactly one reading of each kind: `plain_one`,
-- `closed_one`.)
pub record AnswersPrinted (page : Page) (output : List ℕ) : Type 0 where
  pub answers : Answers
  pub are : AreAnswers page answers
  pub is : output ≡ page_output page answers

-- "A refused page prints only `refused,number,line`."
abbrev pub PrintedAs : Option Refusal → Page → List ℕ → Type 0
PrintedAs (some r) page output = output ≡ printed (refusal_fields r.number r.line ∷ [])
PrintedAs none page output = AnswersPrinted page output

-- The output for a text. Every text has exactly one: `output_exists`, `output_one`.
unfoldable pub IsOutput : List ℕ → List ℕ → Type 0
IsOutput text output = PrintedAs (text_refusal text) (page_read text) output

-- What answering a text leaves in a lent slice, and hands back, the length of the output: a slice that is long enough has the output at its
-- front and the rest as it was, and one that is too short is left as it is.
pub record Prints (text out out' : List ℕ) (size : ℕ) : Type 0 where
  pub output : List ℕ
  pub is_output : IsOutput text output
  pub size_is : size ≡ length output
  pub left : out' ≡ cond (leb (length output) (length out)) (output ++ drop (length output) out) out
