-- What solvable areas are: every sound area is one, and each holds a proper page. Assumes nothing.
use mathlib.Core.Path.{◌≡◌}
use mathlib.Core.Bool.{true}
use mathlib.Core.List.{List}
use Prim.Native.Nat.{ℕ, ◌≤◌}
use native.Mathlib.Omega.{arith}
use Rattle.semantics.specs.Area.{sound, page_of, used_of}
use Rattle.semantics.proofs.Proper.{Proper}
use Rattle.semantics.proofs.Soundness.{Sound, parts_to, proper_to, sound_more}
use Rattle.semantics.proofs.UsedLength.{used_to}
use Rattle.page.specs.Solvable.{solvable}

pub sound_solvable : (a : List ℕ) → sound a ≡ true → solvable a ≡ true
sound_solvable = sound_more 1024 1536 (omega arith)

pub solvable_parts : (a : List ℕ) → solvable a ≡ true → Sound 1536 a
solvable_parts = parts_to 1536

pub solvable_proper : (a : List ℕ) → solvable a ≡ true → Proper (page_of a)
solvable_proper = proper_to 1536

-- four head numbers, 512 conditions, 1,536 entries of 12
pub solvable_used : (a : List ℕ) → solvable a ≡ true → used_of a ≤ 18948
solvable_used a e = omega (arith, used_to 1536 a e)
