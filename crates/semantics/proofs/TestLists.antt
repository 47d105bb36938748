-- Lists of tests that must all hold: what one test says of the whole, and the whole of one test. Assumes nothing.
use mathlib.Core.Path.{◌≡◌, refl}
use mathlib.Core.Bool.{Bool, true, false, false≢true}
use mathlib.Core.List.{List, [], ◌∷◌}
use Prim.Native.Nat.{ℕ, zero, suc}
use lib.ListN.{get_or}
use Rattle.semantics.specs.Area.{every}

-- the test at place k fails
pub fails : (ts : List Bool) (k : ℕ) → get_or ts k true ≡ false → every ts ≡ false
fails [] k e = e
fails (t ∷ ts) zero e = rw e
fails (true ∷ ts) (suc k) e = fails ts k e
fails (false ∷ ts) (suc k) e = refl

-- all hold, so the one at place k does
pub passes : (ts : List Bool) (k : ℕ) → every ts ≡ true → get_or ts k true ≡ true
passes [] k e = refl
passes (true ∷ ts) zero e = refl
passes (true ∷ ts) (suc k) e = passes ts k e
passes (false ∷ ts) k e = absurd (false≢true e)
