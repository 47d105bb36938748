-- The difference of two naturals as an integer, by which is the greater, and its size. Assumes nothing.
use mathlib.Core.Path.{◌≡◌, refl, ap}
use mathlib.Core.Bool.{Bool, true, false, cond}
use Prim.Native.Nat.{ℕ, zero, suc, ◌-◌, ◌≤◌, ◌<◌, ◌^◌}
use native.Mathlib.Omega.{arith}
use lib.Dec.{ltb}
use lib.IntN.{ℤ, pos, negsuc, ◌-ℤ◌, nat_abs}
use borrow.Author.Tests.{lt-ltb, le-ltb, ltb-true, ltb-false}
use mir.Facts.{to_z-of_z}
use mir.Syntax.{w32}
use mir.Val.{SFits, to_z, of_z}
use Rattle.semantics.specs.Season.{larger}

up : (a b : ℕ) → a ≤ b → pos b -ℤ pos a ≡ pos (b - a)
up zero b h = ap pos (omega arith)
up (suc a) b h = rw (le-ltb b (suc a) h)

down : (a b : ℕ) → b < a → pos b -ℤ pos a ≡ negsuc (a - suc b)
down zero b h = absurd (omega arith)
down (suc a) b h = rw (lt-ltb b (suc a) h)

-- one of the two holds
by_order : {X : Type 0} (a b : ℕ) → (a < b → X) → (b ≤ a → X) → X
by_order {X} a b f g = go (ltb a b) refl
  where
    go : (t : Bool) → ltb a b ≡ t → X
    go true e = f (ltb-true a b e)
    go false e = g (ltb-false a b e)

pub fits : (a b : ℕ) → a < 2 ^ 16 → b < 2 ^ 16 → SFits w32 (pos b -ℤ pos a)
fits a b ha hb = by_order b a (λ h. rw (down a b h) (record { sfits = omega arith })) (λ h. rw (up a b h) (record { sfits = omega arith }))

-- the size of a difference is at most the greater number
pub size_most : (a b m : ℕ) → a ≤ m → b ≤ m → nat_abs (pos b -ℤ pos a) ≤ m
size_most a b m ha hb = by_order b a (λ h. rw (down a b h) (omega arith)) (λ h. rw (up a b h) (omega arith))

-- of two changes: one is no larger than a bound if both are not
pub larger_most : (z w : ℤ) (m : ℕ) → nat_abs z ≤ m → nat_abs w ≤ m → nat_abs (larger z w) ≤ m
larger_most z w m hz hw = go (ltb (nat_abs z) (nat_abs w))
  where
    go : (t : Bool) → nat_abs (cond t w z) ≤ m
    go true = hw
    go false = hz

-- 0 is smaller in size than any other change
pub larger_from_zero : (z : ℤ) → larger (pos 0) z ≡ z
larger_from_zero (pos zero) = refl
larger_from_zero (pos (suc n)) = rw (lt-ltb 0 (suc n) (omega arith))
larger_from_zero (negsuc n) = rw (lt-ltb 0 (suc n) (omega arith))

-- the earliest of the greatest of three, from the left or from the right
pub larger_assoc : (x y z : ℤ) → larger x (larger y z) ≡ larger (larger x y) z
larger_assoc x y z = go (ltb (nat_abs y) (nat_abs z)) refl (ltb (nat_abs x) (nat_abs y)) refl
  where
    go : (t : Bool) → ltb (nat_abs y) (nat_abs z) ≡ t → (u : Bool) → ltb (nat_abs x) (nat_abs y) ≡ u → larger x (cond t z y) ≡ larger (cond u y x) z
    go true p true q = rw (p, lt-ltb (nat_abs x) (nat_abs z) (omega (arith, ltb-true (nat_abs y) (nat_abs z) p, ltb-true (nat_abs x) (nat_abs y) q)))
    go true p false q = refl
    go false p true q = rw (p, q)
    go false p false q = rw (q, le-ltb (nat_abs x) (nat_abs z) (omega (arith, ltb-false (nat_abs y) (nat_abs z) p, ltb-false (nat_abs x) (nat_abs y) q)))

-- a small number is read back from its bits
pub back : (z : ℤ) → nat_abs z ≤ 65535 → to_z w32 (of_z w32 z) ≡ z
back (pos n) h = to_z-of_z {w = w32} (record { sfits = omega arith })
back (negsuc n) h = to_z-of_z {w = w32} (record { sfits = omega arith })
