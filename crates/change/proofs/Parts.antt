-- The lines of a trial among others, for a caller that lends a part of its list. Assumes nothing.
use mathlib.Core.Path.{◌≡◌, refl, ap}
use mathlib.Core.List.{List, [], ◌∷◌}
use Prim.Native.Nat.{ℕ, zero, suc, ◌*◌, ◌/◌, ◌≤◌}
use native.Mathlib.Omega.{arith}
use lib.ListN.{length, take}
use lib.Seq.{length-take-le}
use Rattle.semantics.specs.Trials.{TrialLine}
use Rattle.change.specs.Trial.{lines_at, lines_in}

-- the lines of a part are the first ones of the whole
part_lines : (k : ℕ) (p : List ℕ) → 4 * k ≤ length p → lines_at k (take (4 * k) p) ≡ lines_at k p
unfolding lines_at
part_lines zero p f = refl
part_lines (suc k) [] f = absurd (omega arith)
part_lines (suc k) (t ∷ []) f = absurd (omega arith)
part_lines (suc k) (t ∷ c ∷ []) f = absurd (omega arith)
part_lines (suc k) (t ∷ c ∷ l ∷ []) f = absurd (omega arith)
part_lines (suc k) (t ∷ c ∷ l ∷ h ∷ p) f =
    let e : 4 * suc k ≡ suc (suc (suc (suc (4 * k)))) = omega arith in
    rw e (ap (λ (ts : List TrialLine). record { trial = t; condition = c; low = l; high = h } ∷ ts) (part_lines k p (omega arith)))

pub lines_part : (k : ℕ) (p : List ℕ) → 4 * k ≤ length p → lines_in (take (4 * k) p) ≡ lines_at k p
lines_part k p f = let e : length (take (4 * k) p) / 4 ≡ k = omega (arith, length-take-le (4 * k) p f) in rw e (part_lines k p f)
