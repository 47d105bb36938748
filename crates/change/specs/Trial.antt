-- The lines of a trial as numbers, four for each line, and what they give a condition. Assumes nothing.
use Rattle.std.specs.Prelude.{Bool, true, false, List, [], ◌∷◌, ℕ, zero, suc, ◌/◌, length, get_or, drop}
use Rattle.std.specs.Prelude as code
use Rattle.std.specs.Prelude.{None, Some}
use Rattle.std.proofs.Math.Option.{Option, none, some}
use Rattle.fixpoint.specs.Interval.{Interval}
use Rattle.semantics.specs.Page.{Line, fact, rule, query, default}
use Rattle.semantics.specs.Area.{page_of, area_of}
use Rattle.semantics.specs.Trials.{TrialLine, tried, changed_page}
use Rattle.value.specs.declared.Ends.{Ends}

-- the line at the front: trial, condition, low, high
abbrev pub trial_at : List ℕ → TrialLine
trial_at p = record { trial = get_or p 0 0; condition = get_or p 1 0; low = get_or p 2 0; high = get_or p 3 0 }

-- the first k lines
unfoldable pub lines_at : ℕ → List ℕ → List TrialLine
lines_at zero p = []
lines_at (suc k) p = trial_at p ∷ lines_at k (drop 4 p)

-- all lines
abbrev pub lines_in : List ℕ → List TrialLine
lines_in p = lines_at (length p / 4) p

-- the area of the page that the lines change
abbrev pub changed_area : (a lines : List ℕ) → List ℕ
changed_area a lines = area_of (changed_page (page_of a) (lines_in lines))

-- what is given
abbrev pub given_of : code.Option Ends → Option Interval
given_of None = none
given_of (Some ends) = some (record { low = ends.low; high = ends.high })

-- something is given
abbrev pub is_given : Option Interval → Bool
is_given none = false
is_given (some p) = true

-- a line that a trial takes out of the page: an F line of a condition that is named
abbrev pub goes : List TrialLine → Line → Bool
goes ts (fact c l h) = is_given (tried ts c)
goes ts (rule c w op lits) = false
goes ts (query r c) = false
goes ts (default c) = false
