-- An index that may be missing, in the parts as the borrow checker states them, and a workspace in whose front an index was. Assumes nothing.
use mathlib.Core.Path.{◌≡◌, ◌∙◌, ap}
use mathlib.Core.Logic.{◌⊎◌, inl, inr}
use mathlib.Core.List.{List, ◌++◌}
use Prim.Native.Nat.{ℕ, ◌+◌, ◌-◌, ◌≤◌}
use native.Mathlib.Decide.{dec_lt}
use native.Mathlib.Omega.{arith}
use lib.ListN.{length, take, drop, replicate, length-replicate, get_or-replicate, get_or-eq_default}
use lib.Seq.{drop_at, length-take-le}
use borrow.Author.Rules.{part_to_end}
use Rattle.semantics.specs.Operation.{zeros}
use Rattle.index.specs.By.{keys_by}
use Rattle.index.specs.Groups.{GroupsBy, Cleared}
use Rattle.index.specs.Parts.{Part}
use Rattle.index.specs.declared.By.{By}

-- a part, or none
abbrev pub MaybePart : By → List ℕ → List ℕ → Type 0
MaybePart by a w = (length w ≡ 0) ⊎ Part by a w

-- a part that is not empty is an index
pub has_part : (by : By) (a w : List ℕ) → MaybePart by a w → (length w ≡ 0 → ⊥)
    → (keys_by by a + 1 ≤ length w) × GroupsBy by a (take (keys_by by a + 1 - 0) w) (take (length w - (keys_by by a + 1)) (drop (keys_by by a + 1) w))
has_part by a w (inl e) h = absurd (h e)
has_part by a w (inr i) h =
    let e : keys_by by a + 1 - 0 ≡ keys_by by a + 1 = omega arith in
    (i.long, rw (e, part_to_end w (keys_by by a + 1)) i.groups)

-- a workspace whose front was used and is erased
pub erased_front : {m : ℕ} (w part : List ℕ) {w' : List ℕ} → length part ≡ length (take m w) → m ≤ length w → w' ≡ zeros m ++ drop m (part ++ drop m w) → w' ≡ zeros m ++ drop m w
erased_front {m} w part s l e = e ∙ ap (λ (t : List ℕ). zeros m ++ t) (drop_at part (drop m w) m (s ∙ length-take-le m w l))

-- zeros
pub cleared_zeros : (n : ℕ) → Cleared (replicate n 0)
cleared_zeros n i =
    elim (dec_lt i n) [
      | yes l ↦ get_or-replicate n i 0 0 l
      | no l ↦ get_or-eq_default (replicate n 0) 0 (omega (arith, length-replicate {A = ℕ} n 0))
    ]
