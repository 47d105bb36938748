-- Both ends of a body value over the lines of its condition, step by step. Assumes nothing.
use Rattle.std.specs.Prelude.{◌≡◌, ◌⊎◌, List, [], ◌∷◌, ℕ, ◌≤◌, max, drop, Option, None, Some}
use Rattle.std.specs.Option.{unwrap_or}
use Rattle.fixpoint.specs.Interval.{Interval, Assign}
use Rattle.semantics.specs.Area.{page_of, top_of, conditions_of, line_at}
use Rattle.semantics.specs.Body.{line_body, T}
use Rattle.semantics.specs.Grade.{End, lower, upper}
use Rattle.page.specs.Places.{LineOf}
use Rattle.value.specs.declared.Ends.{Ends}
use Rattle.value.specs.Table.{end_of, EndTable}
use Rattle.value.specs.LineEnds.{LineEnd}
use Rattle.ends.specs.Mirror.{mirrored}

-- the ends of the lines taken in so far, or 0 where there is none
abbrev pub so_far : Option Ends → Ends
so_far best = unwrap_or best (record { low = 0; high = 0 })

-- an F or R line of c at a place makes both ends at least its own; any other line changes nothing
pub record TakenLine (a values : List ℕ) (c at : ℕ) (best best' : Option Ends) : Type 0 where
  pub here : LineOf a c at
  pub low_end : ℕ
  pub low_is : LineEnd lower a values at low_end
  pub high_end : ℕ
  pub high_is : LineEnd upper a (mirrored (top_of a) values) at high_end
  pub most : best' ≡ Some (record { low = max (so_far best).low low_end; high = max (so_far best).high high_end })

pub record PassedLine (a : List ℕ) (c at : ℕ) (best best' : Option Ends) : Type 0 where
  pub not_here : LineOf a c at → ⊥
  pub same : best' ≡ best

abbrev pub Taken : (a values : List ℕ) (c at : ℕ) (best best' : Option Ends) → Type 0
Taken a values c at best best' = PassedLine a c at best best' ⊎ TakenLine a values c at best best'

-- best is the end e of the body of c, if c has a line: no line exceeds it, and T is no less, at every assignment of that table
pub record Largest (e : End) (a values : List ℕ) (c best : ℕ) : Type 0 where
  pub grade : best ≤ top_of a
  pub reached : (I : Assign) → EndTable e (top_of a) (conditions_of a) I values → best ≤ end_of e (T (page_of a) I c)
  pub covers : (I : Assign) → EndTable e (top_of a) (conditions_of a) I values → (p : ℕ) → LineOf a c p → (q : Interval)
      → line_body (top_of a) I c (line_at (drop p a)) ≡ q ∷ [] → end_of e q ≤ best

-- the largest ends over all lines of c, which has one
pub record BestEnds (a values : List ℕ) (c : ℕ) (best : Ends) : Type 0 where
  pub low_end : Largest lower a values c best.low
  pub high_end : Largest upper a (mirrored (top_of a) values) c best.high
  pub some : (p : ℕ) × LineOf a c p

-- they are told, or nothing exactly if c has no line
abbrev pub BestOf : (a values : List ℕ) → ℕ → Option Ends → Type 0
BestOf a values c None = (p : ℕ) → LineOf a c p → ⊥
BestOf a values c (Some best) = BestEnds a values c best

-- both ends of the body value T of c, at every assignment that the table holds
pub record Body (a values : List ℕ) (c low high : ℕ) : Type 0 where
  pub low_in : low ≤ top_of a
  pub high_in : high ≤ top_of a
  pub is : (I : Assign) → EndTable lower (top_of a) (conditions_of a) I values → EndTable upper (top_of a) (conditions_of a) I (mirrored (top_of a) values)
      → record { low = low; high = high } ≡ T (page_of a) I c
