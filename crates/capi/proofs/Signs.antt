-- Signed codes at 32 bits: they fit, and are read back from their bits. Assumes nothing.
use mathlib.Core.Path.{◌≡◌}
use Prim.Native.Nat.{ℕ, zero, suc, ◌<◌, ◌^◌}
use native.Mathlib.Omega.{arith}
use lib.IntN.{ℤ, pos, ◌-ℤ◌, +ℤ_idl}
use lib.Signed.{mag}
use mir.Facts.{to_z_pos, to_z-of_z}
use mir.Syntax.{w32}
use mir.Val.{SFits, to_z, of_z}
use Rattle.capi.specs.Codes.{minus}

-- what a call returned, read back
pub returned : (z : ℤ) → mag z < 2 ^ 31 → to_z w32 (of_z w32 z) ≡ z
returned z h = to_z-of_z {w = w32} {z = z} (record { sfits = h })

-- 0 - k, as the code has it
pub less : (k : ℕ) → k < 2 ^ 8 → pos 0 -ℤ to_z w32 k ≡ minus k
less k h = rw (to_z_pos w32 {n = k} (omega arith)) (+ℤ_idl (minus k))

pub fits : (k : ℕ) → k < 2 ^ 8 → SFits w32 (minus k)
fits zero h = record { sfits = omega arith }
fits (suc k) h = record { sfits = omega arith }
