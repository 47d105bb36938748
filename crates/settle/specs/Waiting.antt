-- The conditions that wait, as a set of words, while an end is settled over an index. Assumes nothing.
use Rattle.std.specs.Prelude.{◌≡◌, ◌⊎◌, Bool, true, false, List, ℕ, ◌<◌}
use Rattle.semantics.specs.Area.{page_of, conditions_of}
use Rattle.semantics.specs.Grade.{End}
use Rattle.semantics.specs.Table.{member}
use Rattle.bits.specs.Words.{has}
use Rattle.index.specs.Readers.{lines_read}
use Rattle.settle.specs.Scratch.{RestsAt}

-- a set of conditions
pub record WaitSet (n : ℕ) (words : List ℕ) : Type 0 where
  pub inside : (c : ℕ) → c < 512 → has words c ≡ true → c < n

-- with an index the heads of the rules that have a literal wait; without one nothing is done
pub record Woken (a : List ℕ) (indexed : Bool) (code : ℕ) (words words' : List ℕ) : Type 0 where
  pub set : WaitSet (conditions_of a) words'
  pub kept : (c : ℕ) → c < 512 → has words c ≡ true → has words' c ≡ true
  pub woken : (indexed ≡ false) ⊎ ((h : ℕ) → lines_read code (page_of a).lines h ≡ true → has words' h ≡ true)
  pub same : indexed ≡ false → words' ≡ words

-- whoever is reached and does not wait rests
pub record Waiting (e : End) (a : List ℕ) (m : List Bool) (s words : List ℕ) : Type 0 where
  pub set : WaitSet (conditions_of a) words
  pub rests : (c : ℕ) → c < conditions_of a → member m c ≡ true → has words c ≡ false → RestsAt e a s c

-- .. or there is no index
abbrev pub MaybeWaiting : End → List ℕ → List Bool → (indexed : Bool) → (s words : List ℕ) → Type 0
MaybeWaiting e a m indexed s words = (indexed ≡ false) ⊎ Waiting e a m s words
