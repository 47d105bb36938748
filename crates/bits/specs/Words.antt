-- Sets of up to 512 conditions as eight words of 64 bits. Assumes nothing.
use Rattle.std.specs.Prelude.{◌≡◌, Bool, not, ◌&&◌, ◌||◌, List, ℕ, ◌/◌, ◌%◌, ◌<◌, ◌^◌, eqb, length, get_or}

-- the bit of c
abbrev pub has : List ℕ → ℕ → Bool
has words c = eqb (get_or words (c / 64) 0 / 2 ^ (c % 64) % 2) 1

-- the set with c; the set without c
abbrev pub Inserted : ℕ → List ℕ → List ℕ → Type 0
Inserted c words words' = (length words' ≡ 8) × ((k : ℕ) → k < 512 → has words' k ≡ (has words k || eqb k c))

abbrev pub Removed : ℕ → List ℕ → List ℕ → Type 0
Removed c words words' = (length words' ≡ 8) × ((k : ℕ) → k < 512 → has words' k ≡ (has words k && not (eqb k c)))

-- the set `reached` with those of `named`; and the set `waiting` with those of `named` that were not reached
pub record Absorbed (named reached waiting reached' waiting' : List ℕ) : Type 0 where
  pub reached_size : length reached' ≡ 8
  pub waiting_size : length waiting' ≡ 8
  pub reached_is : (k : ℕ) → k < 512 → has reached' k ≡ (has reached k || has named k)
  pub waiting_is : (k : ℕ) → k < 512 → has waiting' k ≡ (has waiting k || (has named k && not (has reached k)))
