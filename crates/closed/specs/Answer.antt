-- The outcome of each answer of the closed reading. Assumes nothing.
use Rattle.std.specs.Prelude.{◌≡◌, List, ℕ, Result, Ok, Err}
use Rattle.std.proofs.Math.Option.{Option}
use Rattle.semantics.specs.Call.{first_of}
use Rattle.semantics.specs.Operation.{closed_causes, Closing, refused_closing, closed_after}
use Rattle.refusal.specs.Numbers.{number_of}
use Rattle.refusal.specs.declared.Refusal.{Refusal}

-- the number of a refusal, or the count of rounds where the call did its work
abbrev pub closing_told : Result ℕ Refusal → Closing
closing_told (Err r) = refused_closing (number_of r)
closing_told (Ok k) = closed_after k

-- the answer is the first cause that holds, or none
pub record FirstCause (answer : Option ℕ) (a qs s w : List ℕ) : Type 0 where
  pub is : answer ≡ first_of (closed_causes a qs s w)
