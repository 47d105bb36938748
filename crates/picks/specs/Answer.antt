-- What the answer of the check says. Assumes nothing.
use Rattle.std.specs.Prelude.{List, ℕ, Result, Ok, Err}
use Rattle.std.proofs.Math.Option.{none}
use Rattle.semantics.specs.Page.{Page}
use Rattle.semantics.specs.Picks.{PicksAnswer, refused_queries, not_waiting, not_at_rest, wrong_figures, accepted_picks, PicksAs}
use Rattle.refusal.specs.Numbers as refusal
use Rattle.picks.specs.declared.PickError.{PickError}
use Rattle.picks.specs.declared.PickError.TheVariants.{Refused, NotWaiting, NotAtRest, WrongFigures}

-- a refusal's number; 50; 51; 52
abbrev pub number_of : PickError → ℕ
number_of (Refused r) = refusal.number_of r
number_of (NotWaiting place) = 50
number_of NotAtRest = 51
number_of WrongFigures = 52

-- the place is told with 50
abbrev pub place_of : PickError → ℕ
place_of (Refused r) = 0
place_of (NotWaiting place) = place
place_of NotAtRest = 0
place_of WrongFigures = 0

-- a refusal's number; 50 with the place; 51; 52; accepted
abbrev pub checked_of : Result (Unit {0}) PickError → PicksAnswer
checked_of (Err (Refused r)) = refused_queries (refusal.number_of r)
checked_of (Err (NotWaiting place)) = not_waiting place
checked_of (Err NotAtRest) = not_at_rest
checked_of (Err WrongFigures) = wrong_figures
checked_of (Ok x) = accepted_picks

-- the answer where no cause before 50 holds
pub record Judged (answer : PicksAnswer) (page : Page) (qs picks figures : List ℕ) : Type 0 where
  pub is : PicksAs none answer page qs picks figures
