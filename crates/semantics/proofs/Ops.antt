-- The five ops and the weight, once for all tops. Assumes nothing.
use mathlib.Core.Path.{◌≡◌, refl, ap}
use Prim.Native.Nat.{ℕ, zero, suc, ◌+◌, ◌*◌, ◌-◌, ◌/◌, ◌≤◌}
use native.Mathlib.Nat.{le_trans, div-zero, div-mul-le_self, lt-div-mul-add, le-div_iff_mul-le, div-lt_iff_lt-mul, suc-mul, mul-le-mul}
use native.Mathlib.Omega.{arith}
use Rattle.semantics.specs.Grade.{End, lower, upper, rounding, divided, Op, M, X, L, B, P, combine}

-- the low end rounds down, the high end up
pub divided_down : (x top : ℕ) → divided lower x top ≡ x / top
unfolding divided rounding
divided_down x top = ap (λ (y : ℕ). y / top) (omega arith)

pub divided_up : (x top : ℕ) → divided upper x top ≡ (x + (top - 1)) / top
unfolding divided rounding
divided_up x top = refl

-- so x divided by top lies between the two
pub divided_below : (x top : ℕ) → divided lower x top * top ≤ x
unfolding divided rounding
divided_below x top = omega (arith, div-mul-le_self (x + 0) top)

pub divided_above : (x top : ℕ) → 1 ≤ top → x ≤ divided upper x top * top
unfolding divided rounding
divided_above x top h = omega (arith, lt-div-mul-add {a = x + rounding upper top} h)

-- What follows holds however the two ends round, as long as less than top is added, and at the low end no more than at the high end.
rounding_ends : (top : ℕ) → rounding lower top ≤ rounding upper top
unfolding rounding
rounding_ends top = omega arith

rounding_small : (top : ℕ) (e : End) → rounding e top ≤ top - 1
unfolding rounding
rounding_small top lower = omega arith
rounding_small top upper = omega arith

div_mono : (top : ℕ) {x y : ℕ} → x ≤ y → x / top ≤ y / top
div_mono zero {x} {y} h = omega (arith, div-zero x, div-zero y)
div_mono (suc k) {x} {y} h = (le-div_iff_mul-le {k = suc k} {x = x / suc k} (omega arith)).1 (le_trans (div-mul-le_self x (suc k)) h)

div_bounded : (top : ℕ) {x r : ℕ} → x ≤ top * top → r ≤ top - 1 → (x + r) / top ≤ top
div_bounded zero {x} {r} h k = omega (arith, div-zero (x + r))
div_bounded (suc n) {x} {r} h k = omega (arith, (div-lt_iff_lt-mul {k = suc n} {x = x + r} {y = suc (suc n)} (omega arith)).1 (omega (arith, suc-mul (suc n) (suc n))))

pub divided_mono : (top : ℕ) (e : End) {x y : ℕ} → x ≤ y → divided e x top ≤ divided e y top
unfolding divided
divided_mono top e h = div_mono top (omega arith)

pub divided_ends : (top x : ℕ) → divided lower x top ≤ divided upper x top
unfolding divided
divided_ends top x = div_mono top (omega (arith, rounding_ends top))

pub divided_bounded : (top : ℕ) (e : End) {x y : ℕ} → x ≤ top → y ≤ top → divided e (x * y) top ≤ top
unfolding divided
divided_bounded top e h k = div_bounded top (mul-le-mul h k) (rounding_small top e)

-- The five ops: monotone, ordered at the two ends, at most top.
pub combine_mono : (top : ℕ) (op : Op) (e : End) {p q p' q' : ℕ} → p ≤ q → p' ≤ q' → combine top op e p p' ≤ combine top op e q q'
unfolding combine
combine_mono top M e h k = omega arith
combine_mono top X e h k = omega arith
combine_mono top L e h k = omega arith
combine_mono top B e h k = omega arith
combine_mono top P e h k = divided_mono top e (mul-le-mul h k)

pub combine_ends : (top : ℕ) (op : Op) (p q : ℕ) → combine top op lower p q ≤ combine top op upper p q
unfolding combine
combine_ends top M p q = omega arith
combine_ends top X p q = omega arith
combine_ends top L p q = omega arith
combine_ends top B p q = omega arith
combine_ends top P p q = divided_ends top (p * q)

pub combine_bounded : (top : ℕ) (op : Op) (e : End) {p q : ℕ} → p ≤ top → q ≤ top → combine top op e p q ≤ top
unfolding combine
combine_bounded top M e h k = omega arith
combine_bounded top X e h k = omega arith
combine_bounded top L e h k = omega arith
combine_bounded top B e h k = omega arith
combine_bounded top P e h k = divided_bounded top e h k
