-- The laws of pairs and of the knowledge order. Assumes nothing.
use mathlib.Core.Path.{◌≡◌, subst}
use Prim.Native.Nat.{ℕ, ◌-◌, ◌≤◌}
use native.Mathlib.Omega.{arith}
use Rattle.fixpoint.specs.Interval.{Interval, Ordered}
use Rattle.fixpoint.specs.KnowledgeOrder.{Under}

pub pair_eq : {p q : Interval} → p.low ≡ q.low → p.high ≡ q.high → p ≡ q
pair_eq e f = λ i. record { low = e i; high = f i }

pub under_refl : (p : Interval) → Under p p
under_refl p = omega arith

pub under_trans : {p q r : Interval} → Under p q → Under q r → Under p r
under_trans h k = omega arith

pub under_antisym : {p q : Interval} → Under p q → Under q p → p ≡ q
under_antisym h k = pair_eq (omega arith) (omega arith)

pub under_eq : {p q : Interval} → p ≡ q → Under p q
under_eq {p} e = subst (λ (r : Interval). Under p r) e (under_refl p)

abbrev pub width : Interval → ℕ
width p = p.high - p.low

-- knowing more narrows a pair, and a pair as wide as before is as before
pub width_le : {p q : Interval} → Under p q → width q ≤ width p
width_le h = omega arith

pub width_eq : {p q : Interval} → Under p q → Ordered q → width q ≡ width p → p ≡ q
width_eq h o e = pair_eq (omega arith) (omega arith)
