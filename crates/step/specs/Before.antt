-- Which line an evaluation tells, from what its condition held before. Assumes nothing.
use Rattle.std.specs.Prelude.{◌≡◌, ◌≢◌, List, ℕ, ◌<◌}
use Rattle.fixpoint.specs.Interval.{Assign}
use Rattle.semantics.specs.Area.{page_of, conditions_of}
use Rattle.semantics.specs.Body.{T}
use Rattle.semantics.specs.Holding.{line_holding}
use Rattle.semantics.specs.RunArea.{interval_at}

-- I is what was held before the evaluation of c, in which it held [low; high]: elsewhere what the run area holds, and T of it has the low end that c holds now
pub record HeldBefore (a run : List ℕ) (c low high : ℕ) (I : Assign) : Type 0 where
  pub here : I c ≡ record { low = low; high = high }
  pub others : (d : ℕ) → d < conditions_of a → d ≢ c → I d ≡ interval_at run d
  pub new_low : (interval_at run c).low ≡ (T (page_of a) I c).low

-- r is the line that holds the low end of c on what was held before
pub record ToldBefore (a run : List ℕ) (c low high r : ℕ) : Type 0 where
  pub is : (I : Assign) → HeldBefore a run c low high I → r ≡ line_holding (page_of a) I c
