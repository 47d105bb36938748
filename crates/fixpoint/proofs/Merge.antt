-- The laws of `merge`, by cases on whether a condition is free. Assumes nothing.
use mathlib.Core.Path.{◌≡◌, refl, sym, ◌∙◌, ap}
use mathlib.Core.Bool.{Bool, true, false, cond}
use Prim.Native.Nat.{ℕ, ◌≤◌, min, max}
use native.Mathlib.Omega.{arith}
use Rattle.fixpoint.specs.Interval.{Interval, Within}
use Rattle.fixpoint.specs.KnowledgeOrder.{Under, unknown}
use Rattle.fixpoint.specs.AlternatingFixpoint.{merge, clip}
use Rattle.fixpoint.proofs.KnowledgeOrder.{pair_eq}

pub merge_same : (t : Bool) (p : Interval) → merge t p p ≡ p
merge_same true p = refl
merge_same false p = refl

-- only the floor of a pair goes into a merge
pub merge_floor : (t : Bool) (top : ℕ) (p q : Interval) → merge t (merge t p (unknown top)) q ≡ merge t p q
merge_floor true top p q = refl
merge_floor false top p q = refl

pub merge_in : (t : Bool) {top : ℕ} (p q : Interval) → Within top (merge t p (unknown top)) → (t ≡ false → q.high ≤ top)
    → Within top (merge t p q)
merge_in true p q h g = h
merge_in false p q h g = omega (arith, g refl)

pub floor_in : (t : Bool) {top : ℕ} {p : Interval} → Within top p → Within top (merge t p (unknown top))
floor_in true h = h
floor_in false h = omega arith

pub merge_under : (t : Bool) (top : ℕ) (p q r s : Interval) → Under (merge t p (unknown top)) (merge t q (unknown top))
    → (t ≡ false → s.high ≤ r.high) → Under (merge t p r) (merge t q s)
merge_under true top p q r s h g = omega arith
merge_under false top p q r s h g = omega (arith, g refl)

pub floor_mono : (t : Bool) (top : ℕ) {p q : Interval} → Under p q → Under (merge t p (unknown top)) (merge t q (unknown top))
floor_mono true top h = h
floor_mono false top h = omega arith

-- a floor tells less than its pair
pub floor_under : (t : Bool) {top : ℕ} {p : Interval} → p.high ≤ top → Under (merge t p (unknown top)) p
floor_under true h = omega arith
floor_under false h = omega arith

pub merge_eq : (t : Bool) (top : ℕ) (p q r s : Interval) → merge t p (unknown top) ≡ merge t q (unknown top)
    → (t ≡ false → r.high ≡ s.high) → merge t p r ≡ merge t q s
merge_eq true top p q r s h g = h
merge_eq false top p q r s h g = pair_eq (ap (λ (x : Interval). x.low) h) (g refl)

-- what is cut off at top
pub clip_in : (t : Bool) (top : ℕ) (p : Interval) → Within top (merge t (clip top p) (unknown top))
clip_in t top p = floor_in t {p = clip top p} (omega arith)

pub clip_mono : (top : ℕ) {p q : Interval} → Under p q → Under (clip top p) (clip top q)
clip_mono top h = omega arith

pub clip_under : (t : Bool) {top : ℕ} (p q : Interval) → Within top (merge t q (unknown top))
    → Under (merge t p (unknown top)) (merge t q (unknown top)) → Under (merge t (clip top p) (unknown top)) (merge t q (unknown top))
clip_under true p q w h = omega arith
clip_under false p q w h = omega arith

pub clip_within : {top : ℕ} {p : Interval} → Within top p → clip top p ≡ p
clip_within h = pair_eq (omega arith) (omega arith)

-- a merge, joined with an interval that tells nothing but a lower high end, and certainly-false where t holds, has that high end
pub merge_join : (t : Bool) {top : ℕ} (p q r : Interval) → Within top (merge t p (unknown top)) → r.low ≤ 0 → (t ≡ true → r.high ≡ top)
    → (t ≡ false → r.high ≤ q.high)
    → record { low = max p.low r.low; high = min (cond t p.high q.high) r.high } ≡ merge t p r
merge_join true p q r w z f g = pair_eq (omega arith) (omega (arith, f refl))
merge_join false p q r w z f g = pair_eq (omega arith) (omega (arith, g refl))

-- whatever tells what the floor of p tells, joined with the ceiling of q, tells what their merge tells
pub merge_ceiling : (t : Bool) (top : ℕ) (p q r : Interval) → Under (merge t p (unknown top)) (merge t r (unknown top))
    → Under (merge t p q) (record { low = max r.low 0; high = min r.high (cond t top q.high) })
merge_ceiling true top p q r h = omega arith
merge_ceiling false top p q r h = omega arith

pub merge_cong : (t t' : Bool) (top : ℕ) (p q r s : Interval) → t ≡ t' → merge t p (unknown top) ≡ merge t' q (unknown top)
    → (t ≡ false → r.high ≡ s.high) → merge t p r ≡ merge t' q s
merge_cong t t' top p q r s e h g =
    merge_eq t top p q r s (h ∙ ap (λ (b : Bool). merge b q (unknown top)) (sym e)) g ∙ ap (λ (b : Bool). merge b q s) e
