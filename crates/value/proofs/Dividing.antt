-- A product of two grades divided by top, with what an end adds before. Assumes nothing.
use Prim.Native.Nat.{ℕ, suc, ◌+◌, ◌*◌, ◌/◌, ◌≤◌, ◌<◌}
use native.Mathlib.Nat.{mul-le-mul, div-lt_iff_lt-mul, suc-mul}
use native.Mathlib.Omega.{arith}
use Rattle.semantics.specs.Grade.{lower, upper, rounding}
use Rattle.value.specs.LineEnds.{Adds}

pub product_divides : {p q top : ℕ} → 1 ≤ top → top ≤ 200 → p ≤ top → q ≤ top → (1 ≤ top) × (p * q + top ≤ 65536)
product_divides {p} {q} {top} some small h k =
    let h' : p ≤ 200 = omega arith in
    let k' : q ≤ 200 = omega arith in
    (some, omega (arith, mul-le-mul h' k'))

-- what an end adds is below top
pub adds_small : {top add : ℕ} → 1 ≤ top → Adds top add → add < top
unfolding rounding
adds_small some (lower, q) = omega arith
adds_small some (upper, q) = omega arith

pub product_adds : {p q top add : ℕ} → 1 ≤ top → top ≤ 200 → p ≤ top → q ≤ top → add < top → (1 ≤ top) × (p * q + add < 65536)
product_adds some small h k l = omega (arith, product_divides some small h k)

-- and the quotient is a grade
pub product_bounded : {p q top add : ℕ} → p ≤ top → q ≤ top → add < top → (p * q + add) / top ≤ top
product_bounded {p} {q} {top} {add} h k l =
    omega (arith, (div-lt_iff_lt-mul {k = top} {x = p * q + add} {y = suc top} (omega arith)).1 (omega (arith, mul-le-mul h k, suc-mul top top)))
