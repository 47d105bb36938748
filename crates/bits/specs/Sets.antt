-- Which conditions of a set are told. Assumes nothing.
use Rattle.std.specs.Prelude.{◌≡◌, true, false, List, ℕ, ◌<◌, Option, None, Some}
use Rattle.bits.specs.Words.{has, Removed}

-- nobody is in the set
abbrev pub Nobody : List ℕ → Type 0
Nobody words = (c : ℕ) → c < 512 → has words c ≡ false

-- c is in the set
pub record Member (words : List ℕ) (c : ℕ) : Type 0 where
  pub within : c < 512
  pub found : has words c ≡ true

-- the lowest of the set is told, or nothing exactly if nobody is in the set
abbrev pub LowestIn : List ℕ → Option ℕ → Type 0
LowestIn words None = Nobody words
LowestIn words (Some r) = Member words r × ((c : ℕ) → c < r → has words c ≡ false)

-- one of the set is told, or nothing exactly if nobody is in the set
abbrev pub AnyIn : List ℕ → Option ℕ → Type 0
AnyIn words None = Nobody words
AnyIn words (Some r) = Member words r

-- one of the set is told and taken out, or nobody is in the set
abbrev pub TakesOut : (words : List ℕ) (given : Option ℕ) (words' : List ℕ) → Type 0
TakesOut words None words' = Nobody words × (words' ≡ words)
TakesOut words (Some c) words' = Member words c × Removed c words words'
