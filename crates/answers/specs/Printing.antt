-- What the functions that write the output leave and hand back. Assumes nothing.
use Rattle.std.specs.Prelude.{◌≡◌, ◌≢◌, List, [], ◌∷◌, ◌++◌, map, ℕ, ◌+◌, ◌*◌, ◌≤◌, ◌<◌, length, get_or}
use Rattle.fixpoint.specs.Interval.{Interval}
use Rattle.print.specs.declared.Text.{Text}
use Rattle.print.specs.Texts.{Puts}
use Rattle.semantics.specs.Fields.{joined, ended_lines}
use Rattle.semantics.specs.Output.{Query, queries_of, Answers, AreAnswers, answer_fields, answer_lines, page_output, IsOutput}
use Rattle.semantics.specs.Page.{Reading, Line, Page}
use Rattle.solve.specs.Asked.{reading_of}
use Rattle.solve.specs.Figures.{figures_in}

-- printed lines, each behind the same bytes; with none before them they are `printed`
abbrev pub led_lines : (lead : List ℕ) → List (List (List ℕ)) → List ℕ
led_lines lead ls = ended_lines (map (λ fs. lead ++ joined fs) ls)

-- the query at a place of an area, and the interval that the figures give the query with the number i
abbrev pub query_at : List ℕ → ℕ → Query
query_at a line = record { reading = reading_of (get_or a (line + 2) 0); condition = get_or a line 0 }

abbrev pub figured : (plain closed : List ℕ) → Reading → ℕ → Interval
figured plain closed r i = record { low = get_or (figures_in r plain closed) (2 * i) 0; high = get_or (figures_in r plain closed) (2 * i + 1) 0 }

-- there are figures of a query with the number i, and in a reading they have at most three digits
pub record SmallFigures (plain closed : List ℕ) (r : Reading) (i : ℕ) : Type 0 where
  pub within : i < 1536
  pub low : (figured plain closed r i).low < 1000
  pub high : (figured plain closed r i).high < 1000

-- the line at a place is answered by the figures with the number `count` if it is a Q line, and nothing is written if it is not
pub record PutLine (a : List ℕ) (line : ℕ) (plain closed lead : List ℕ) (count : ℕ) (text text' : Text) (count' : ℕ) : Type 0 where
  pub other : get_or a (line + 1) 0 ≢ 6 → (text' ≡ text) × (count' ≡ count)
  pub one : get_or a (line + 1) 0 ≡ 6
      → Puts text (led_lines lead (answer_fields (query_at a line) (figured plain closed (reading_of (get_or a (line + 2) 0)) count) ∷ [])) text' × (count' ≡ count + 1)
  pub short : text'.at ≤ text.at + (14 + length lead)

-- The answers to the Q lines among these lines are written, whatever readings the page has: at most 14 bytes and the lead for each, and they are
-- counted.
pub record PutLines (page : Page) (lead : List ℕ) (lines : List Line) (count : ℕ) (text text' : Text) (count' : ℕ) : Type 0 where
  pub counted : count' ≡ count + length (queries_of lines)
  pub bytes : List ℕ
  pub short : length bytes ≤ (14 + length lead) * length (queries_of lines)
  pub are : (A : Answers) → AreAnswers page A → bytes ≡ led_lines lead (answer_lines A (queries_of lines))
  pub wrote : Puts text bytes text'

-- the output for a page is written, whatever readings it has
abbrev pub PutPage : Page → (text text' : Text) → Type 0
PutPage page text text' = (A : Answers) → AreAnswers page A → Puts text (page_output page A) text'

-- the output for the text that is read is written
pub record PutOutput (read : List ℕ) (text text' : Text) : Type 0 where
  pub output : List ℕ
  pub is_output : IsOutput read output
  pub wrote : Puts text output text'
