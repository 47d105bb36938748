-- The queries of a page as a list of conditions, and low and high of each in both readings. Assumes nothing.
use Rattle.std.specs.Prelude.{◌≡◌, List, [], ◌∷◌, ◌++◌, ℕ, ◌+◌, ◌*◌, ◌≤◌, ◌<◌, length, get_or, take, drop}
use Rattle.fixpoint.specs.Interval.{Assign}
use Rattle.semantics.specs.Area.{page_of, line_at}
use Rattle.semantics.specs.Operation.{ends}
use Rattle.semantics.specs.Output.{Query, queries_of, Answers, AreAnswers}
use Rattle.semantics.specs.Page.{Reading, K, W, Line, Page}
use Rattle.semantics.specs.Reading.{IsPlain}

-- the conditions that these lines ask for, in order
unfoldable pub conditions_asked : List Query → List ℕ
conditions_asked [] = []
conditions_asked (q ∷ qs) = q.condition ∷ conditions_asked qs

abbrev pub asked_by : List Line → List ℕ
asked_by ls = conditions_asked (queries_of ls)

-- the condition of the line at a place stands behind k others if the line is a Q line, and nothing else moved
pub record Noted (a : List ℕ) (line : ℕ) (queries : List ℕ) (k : ℕ) (queries' : List ℕ) (k' : ℕ) : Type 0 where
  pub size : length queries' ≡ length queries
  pub more : k' ≡ k + length (asked_by (line_at (drop line a) ∷ []))
  pub front : take k' queries' ≡ take k queries ++ asked_by (line_at (drop line a) ∷ [])

-- the conditions of all Q lines stand in front
pub record NotedAll (a queries' : List ℕ) (k : ℕ) : Type 0 where
  pub size : length queries' ≡ 1536
  pub within : k ≤ 1536
  pub front : take k queries' ≡ asked_by (page_of a).lines

-- low and high of each query in the plain reading are in front, and the rest stays
abbrev pub PlainSolved : Page → (qs answers answers' : List ℕ) → Type 0
PlainSolved page qs answers answers' = (P : Assign) → IsPlain page P → answers' ≡ ends P qs ++ drop (2 * length qs) answers

-- the figures of a reading
abbrev pub figures_in : Reading → (plain closed : List ℕ) → List ℕ
figures_in K plain closed = plain
figures_in W plain closed = closed

-- low and high of each query in each reading, whatever readings the page has
pub record Figures (page : Page) (plain closed : List ℕ) : Type 0 where
  pub plain_size : length plain ≡ 3072
  pub closed_size : length closed ≡ 3072
  pub low : (A : Answers) → AreAnswers page A → (r : Reading) (i : ℕ) → i < length (asked_by page.lines)
      → get_or (figures_in r plain closed) (2 * i) 0 ≡ (A r (get_or (asked_by page.lines) i 0)).low
  pub high : (A : Answers) → AreAnswers page A → (r : Reading) (i : ℕ) → i < length (asked_by page.lines)
      → get_or (figures_in r plain closed) (2 * i + 1) 0 ≡ (A r (get_or (asked_by page.lines) i 0)).high
