-- Words that are 0 together, the highest set digit of a word, and the digits of a masked word. Assumes nothing.
use mathlib.Core.Path.{◌≡◌, ◌∙◌, ap}
use mathlib.Core.Logic.{◌≢◌}
use Prim.Native.Nat.{ℕ, suc, ◌+◌, ◌-◌, ◌/◌, ◌%◌, ◌^◌, ◌≤◌, ◌<◌}
use native.Mathlib.Nat.{pow-suc}
use native.Mathlib.Omega.{arith}
use lib.Bits.{bit_and, bit_or}
use lib.Count.{count_leading_zeros}
use Rattle.std.specs.Int.{bit_at}
use Rattle.std.proofs.lemmas.Nat.{pow_pos, and_le_l, le_or_l, le_or_r, leading_top, div_below, le-div}
use Rattle.std.proofs.lemmas.Nat.Bits.{bit_at-lt, bit_at_and}

-- two numbers that are 0 together are 0
pub both_none : (x y : ℕ) → bit_or x y ≡ 0 → (x ≡ 0) × (y ≡ 0)
both_none x y e = (omega (arith, le_or_l x y), omega (arith, le_or_r x y))

-- the highest set digit of a word
module _ (n : ℕ) (fits : n < 2 ^ 64) (some : n ≢ 0) where
  abbrev highest : ℕ
  highest = 63 - count_leading_zeros 64 n

  top : (j : ℕ) × (count_leading_zeros 64 n + suc j ≡ 64) × (2 ^ j ≤ n) × (n < 2 ^ suc j)
  top = leading_top 64 n (omega (arith, some)) fits

  pub highest_lt : highest < 64
  highest_lt = omega arith

  highest_is : highest ≡ top.0
  highest_is = let e = top.1 in omega (arith, e)

  one_left : n / 2 ^ top.0 ≡ 1
  one_left =
      let j = top.0 in
      omega (arith, div_below n (2 ^ j) 2 (pow_pos j) (omega (arith, top.3, pow-suc 2 j)), le-div 1 n (2 ^ j) (pow_pos j) (omega (arith, top.2)))

  pub highest_found : bit_at n highest ≡ 1
  highest_found = ap (bit_at n) highest_is ∙ ap (λ (x : ℕ). x % 2) one_left

-- a digit of a masked number is one of the number
pub bit_masked : (a m j : ℕ) → bit_at (bit_and a m) j ≡ 1 → bit_at a j ≡ 1
bit_masked a m j h = omega (arith, bit_at_and a m j, bit_at-lt a j)

pub masked_fits : (a m : ℕ) → a < 2 ^ 64 → bit_and a m < 2 ^ 64
masked_fits a m h = omega (arith, and_le_l a m)
