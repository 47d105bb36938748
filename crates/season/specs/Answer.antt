-- What the answer says, and the tests of the list. Assumes nothing.
use Rattle.std.specs.Prelude.{Bool, not, ◌||◌, ℕ, ◌/◌, ◌%◌, eqb, Option, None, Some, Result, Ok, Err}
use Rattle.std.proofs.Math.Option as paper_option
use Rattle.std.proofs.Math.Option.{none, some}
use Rattle.semantics.specs.ReadPage.{Fault, outside}
use Rattle.semantics.specs.Season as paper
use Rattle.season.specs.declared.Figures.{Figures}
use Rattle.season.specs.declared.SeasonError.{SeasonError}
use Rattle.season.specs.declared.SeasonError.TheVariants.{Length, BadPair}

abbrev pub figures_in : Figures → paper.Figures
figures_in f =
    record {
      count = f.count;
      sum_low = f.lows;
      sum_width = f.widths;
      smallest = f.smallest;
      largest = f.largest;
      mean = f.mean;
      remainder = f.remainder;
      change = f.change;
    }

-- "80, a list of wrong length or odd count of numbers", "81, a pair with low above high or high over 200"
abbrev pub number_of : SeasonError → ℕ
number_of Length = 80
number_of (BadPair place) = 81

-- "with the place of the first such pair"; 80 has no place
abbrev pub place_of : SeasonError → ℕ
place_of Length = 0
place_of (BadPair place) = place

-- the figures; or a refusal's number and place
abbrev pub answer_of : Result Figures SeasonError → paper.SeasonAnswer
answer_of (Ok f) = paper.season (figures_in f)
answer_of (Err e) = paper.refused_season (number_of e) (place_of e)

-- a list of n numbers has a wrong length
abbrev pub wrong_length : ℕ → Bool
wrong_length n = not (eqb (n % 2) 0) || outside 1 4096 (n / 2)

-- 81 at a place, if there is one
abbrev pub fault_at : Option ℕ → paper_option.Option Fault
fault_at None = none
fault_at (Some k) = some (record { number = 81; place = k })
