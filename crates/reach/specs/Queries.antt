-- What a list of queries is refused for. Assumes nothing.
use Rattle.std.specs.Prelude.{◌≡◌, not, ◌&&◌, List, [], ◌∷◌, ℕ, leb, length, Result, Ok, Err}
use Rattle.std.proofs.Math.Option.{Option, none, some}
use Rattle.semantics.specs.Area.{all_under}
use Rattle.semantics.specs.Call.{Cause, cause, first_of}
use Rattle.refusal.specs.Numbers.{number_of}
use Rattle.refusal.specs.declared.Refusal.{Refusal}

-- 11 fewer than 1 or more than 16 queries; 12 a query is n or more
abbrev pub list_causes : ℕ → List ℕ → List Cause
list_causes n qs = cause (not (leb 1 (length qs) && leb (length qs) 16)) 11 ∷ cause (not (all_under n qs)) 12 ∷ []

-- the number of the refusal, if there is one
abbrev pub refused_with : {A : Type 0} → Result A Refusal → Option ℕ
refused_with (Ok x) = none
refused_with (Err r) = some (number_of r)

-- the list is refused for the first cause that holds
abbrev pub QueriesChecked : ℕ → List ℕ → Result (Unit {0}) Refusal → Type 0
QueriesChecked n qs r = refused_with r ≡ first_of (list_causes n qs)
