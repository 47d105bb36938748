-- The conditions that wait as a set of bits beside the marks. Assumes nothing.
use Rattle.std.specs.Prelude.{◌≡◌, ◌&&◌, List, ℕ, ◌+◌, ◌-◌, ◌/◌, ◌%◌, ◌^◌, ◌<◌, eqb, ltb}
use Rattle.semantics.specs.RunArea.{mark_at}
use Rattle.bits.specs.Words.{has}

-- the set is that of the conditions below n with mark 2
pub record WordsMatch (n : ℕ) (run words : List ℕ) : Type 0 where
  pub bits : (c : ℕ) → c < 512 → has words c ≡ (ltb c n && eqb (mark_at run c) 2)

-- a set that matched the marks of `run` matches those of run'
pub record StillMatches (n : ℕ) (run words run' words' : List ℕ) : Type 0 where
  pub kept : WordsMatch n run words → WordsMatch n run' words'

-- the digits of x, from the lowest on, tell of the conditions from `from` up to `to` which wait
pub record Digits (run : List ℕ) (from to x : ℕ) : Type 0 where
  pub waits : (j : ℕ) → from + j < to → eqb (x / 2 ^ j % 2) 1 ≡ eqb (mark_at run (from + j)) 2
  pub few : x < 2 ^ (to - from)
