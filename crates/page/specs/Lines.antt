-- A scan over the lines of a page area, and which condition a line names. Assumes nothing.
use Rattle.std.specs.Prelude.{◌≡◌, Bool, true, false, List, ℕ, ◌+◌, ◌-◌, ◌≤◌, length, get_or, drop}
use Rattle.semantics.specs.Area.{kind, span_as, lines_ok, first_line, top_of, conditions_of, count_of, used_of}
use Rattle.semantics.specs.Page.{Line, fact, rule, query, default, mentions}

-- how many numbers the entry at a place takes
abbrev pub step_at : List ℕ → ℕ → ℕ
step_at a at = span_as (kind (get_or a (at + 1) 0)) (get_or a (at + 3) 0)

-- the entry at a place lies in the area, with its literals
pub record EntryIn (a : List ℕ) (at : ℕ) : Type 0 where
  pub four : at + 4 ≤ length a
  pub whole : at + step_at a at ≤ length a

-- a scan at (at, passed) moves to (at', passed'): behind the entry, with one line more passed
pub record Next (a : List ℕ) (at passed at' passed' : ℕ) : Type 0 where
  pub place : at' ≡ at + step_at a at
  pub count : passed' ≡ passed + 1

-- a scan over the lines stands at `at`, with k lines passed, and those still to come pass every test
pub record Scanning (a : List ℕ) (at k : ℕ) : Type 0 where
  pub in_count : k ≤ count_of a
  pub in_used : at ≤ used_of a
  pub in_area : used_of a ≤ length a
  pub entries : lines_ok (top_of a) (conditions_of a) (count_of a - k) (used_of a - at) (drop at a) ≡ true

-- a scan of the lines of an area a stands before the first one
pub record BeginsAt (a a' : List ℕ) (at passed : ℕ) : Type 0 where
  pub same : a' ≡ a
  pub place : at ≡ first_line a
  pub count : passed ≡ 0

-- a line is an R line that "names" c: c is among its literals, plain or negated
abbrev pub line_names : Line → ℕ → Bool
line_names (fact d l h) c = false
line_names (rule d w op lits) c = mentions lits c
line_names (query r d) c = false
line_names (default d) c = false
