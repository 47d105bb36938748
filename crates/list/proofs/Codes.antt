-- The numbers of the lines of a list: how many they are, and where those of a line stand. Assumes nothing.
use mathlib.Core.Path.{◌≡◌, refl, ◌∙◌, ap}
use mathlib.Core.List.{List, [], ◌∷◌, ◌++◌}
use Prim.Native.Nat.{ℕ, zero, suc, ◌*◌, ◌<◌}
use native.Mathlib.Omega.{arith}
use lib.ListN.{length, get_or, drop}
use lib.Seq.{drop-nil, drop-cons}
use Rattle.semantics.specs.Trials.{TrialLine, trial_lines_in}
use Rattle.list.specs.Codes.{trial_code, list_codes}

pub length_trials : (ls : List (List ℕ)) → length (trial_lines_in ls) ≡ length ls
unfolding trial_lines_in
length_trials [] = refl
length_trials (l ∷ ls) = ap suc (length_trials ls)

pub length_codes : (ts : List TrialLine) → length (list_codes ts) ≡ 4 * length ts
unfolding list_codes
length_codes [] = refl
length_codes (t ∷ ts) = omega (arith, length_codes ts)

pub codes_drop : (ts : List TrialLine) (j : ℕ) → drop (4 * j) (list_codes ts) ≡ list_codes (drop j ts)
unfolding list_codes
codes_drop ts zero = refl
codes_drop [] (suc j) = drop-nil (4 * suc j)
codes_drop (t ∷ ts) (suc j) = let e : 4 * suc j ≡ suc (suc (suc (suc (4 * j)))) = omega arith in rw e (codes_drop ts j)

-- those of line j, from 0, and of the lines behind it
pub codes_at : (ts : List TrialLine) (j : ℕ) (d : TrialLine) → j < length ts → drop (4 * j) (list_codes ts) ≡ trial_code (get_or ts j d) ++ list_codes (drop (suc j) ts)
unfolding list_codes
codes_at ts j d h = codes_drop ts j ∙ ap list_codes (drop-cons ts j d h)
