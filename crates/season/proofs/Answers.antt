-- The outcome for a list, test by test. Assumes nothing.
use mathlib.Core.Path.{◌≡◌, sym}
use mathlib.Core.Bool.{true, false}
use mathlib.Core.List.{List, map}
use mathlib.Core.Option.{none, some}
use Prim.Native.Nat.{ℕ, ◌/◌, ◌%◌}
use lib.IntN.{ℤ}
use lib.ListN.{length}
use Rattle.semantics.specs.ReadPage.{leftmost}
use Rattle.semantics.specs.Season.{pairs_in, pair_causes, figures_of, season_refusal, refused_season, season, season_of}
use Rattle.semantics.proofs.Season.{pairs_length}
use Rattle.season.specs.Answer.{wrong_length}
use Rattle.season.specs.Sums.{sums_of}

module _ (s : List ℕ) where
  pub season_80 : wrong_length (length s) ≡ true → refused_season 80 0 ≡ season_of s
  unfolding season_of season_refusal
  season_80 e = sym (rw (pairs_length s, e))

  pub season_81 : (place : ℕ) → wrong_length (length s) ≡ false → leftmost 1 (map pair_causes (pairs_in s)) ≡ some (record { number = 81; place = place }) → refused_season 81 place ≡ season_of s
  unfolding season_of season_refusal
  season_81 place e f = sym (rw (pairs_length s, e, f))

  pub season_passes : wrong_length (length s) ≡ false → leftmost 1 (map pair_causes (pairs_in s)) ≡ none → season_refusal s ≡ none
  unfolding season_refusal
  season_passes e f = rw (pairs_length s, e, f)

  -- the figures of the pairs, by their sums
  pub season_told : (z : ℤ) → season_refusal s ≡ none → z ≡ (sums_of (pairs_in s)).change
      → season
      (record {
        count = length s / 2;
        sum_low = (sums_of (pairs_in s)).lows;
        sum_width = (sums_of (pairs_in s)).widths;
        smallest = (sums_of (pairs_in s)).smallest;
        largest = (sums_of (pairs_in s)).largest;
        mean = (sums_of (pairs_in s)).lows / (length s / 2);
        remainder = (sums_of (pairs_in s)).lows % (length s / 2);
        change = z;
      })
      ≡ season_of s
  unfolding season_of figures_of
  season_told z e f = sym (rw (e, pairs_length s, f))
