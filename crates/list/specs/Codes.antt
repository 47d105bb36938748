-- The lines of a list as numbers: four for each line. Assumes nothing.
use Rattle.std.specs.Prelude.{List, [], ◌∷◌, ◌++◌, ℕ}
use Rattle.semantics.specs.Trials.{TrialLine}

-- trial, condition, low, high
abbrev pub trial_code : TrialLine → List ℕ
trial_code t = t.trial ∷ t.condition ∷ t.low ∷ t.high ∷ []

unfoldable pub list_codes : List TrialLine → List ℕ
list_codes [] = []
list_codes (t ∷ ts) = trial_code t ++ list_codes ts
