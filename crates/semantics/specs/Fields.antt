-- Text that is written: numbers in decimal, letters of readings, fields parted by commas, lines ended by byte 10. Assumes nothing.
use Rattle.std.specs.Prelude.{cond, List, [], ◌∷◌, ◌++◌, ℕ, zero, suc, ◌+◌, ◌/◌, ◌%◌, ltb}
use Rattle.semantics.specs.Page.{Reading, K, W}

-- a number in decimal, without a leading zero: below 10 it is one digit; else the digits of n / 10, and then n % 10
abbrev pub digit : ℕ → ℕ
digit d = 48 + d

-- the first number bounds the digits before the last; n of them are enough (`number_more`)
unfoldable pub number_within : ℕ → ℕ → List ℕ
number_within zero n = digit n ∷ []
number_within (suc k) n = cond (ltb n 10) (digit n ∷ []) (number_within k (n / 10) ++ (digit (n % 10) ∷ []))

unfoldable pub number_text : ℕ → List ℕ
number_text n = number_within n n

-- the letter of a reading
abbrev pub reading_letter : Reading → ℕ
reading_letter K = 75
reading_letter W = 87

-- fields parted by commas
abbrev pub after_commas : List (List ℕ) → List ℕ
after_commas [] = []
after_commas (f ∷ fs) = 44 ∷ f ++ after_commas fs

abbrev pub joined : List (List ℕ) → List ℕ
joined [] = []
joined (f ∷ fs) = f ++ after_commas fs

-- lines, each ended by byte 10
abbrev pub ended_lines : List (List ℕ) → List ℕ
ended_lines [] = []
ended_lines (l ∷ ls) = l ++ (10 ∷ ended_lines ls)
