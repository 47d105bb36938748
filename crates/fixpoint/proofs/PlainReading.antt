-- The plain reading: the least fixed point of a system. Assumes nothing.
use mathlib.Core.Path.{subst}
use mathlib.Core.Bool.{Bool}
use Prim.Native.Nat.{ℕ, zero, suc, ◌+◌, ◌*◌, ◌<◌}
use native.Mathlib.Omega.{arith}
use Rattle.fixpoint.specs.Interval.{Interval, Ordered, Assign}
use Rattle.fixpoint.specs.KnowledgeOrder.{bottom}
use Rattle.fixpoint.specs.System.{System, Consistent, Agrees}
use Rattle.fixpoint.specs.LeastFixpoint.{Operator, IsLeast, iter, lfp}
use Rattle.fixpoint.proofs.LeastFixpoint.{lfp_least, least_unique}

pub agrees_consistent : {n : ℕ} {T : Assign → ℕ → Interval} → Agrees n T → Consistent n T
agrees_consistent G = record { consistent = λ I h. G.agrees I I h h }

module _ {n top : ℕ} {T : Assign → ℕ → Interval} {names : ℕ → ℕ → Bool} (S : System n top T names) where
  pub operator : Operator n top T
  operator = record { mono = S.mono; bounded = S.bounded }

  pub plain_least : IsLeast n top T (lfp n top T)
  plain_least = lfp_least operator

  module _ (F : Consistent n T) where
    pub iter_ordered : (k c : ℕ) → c < n → Ordered (iter top T k c)
    unfolding iter bottom
    iter_ordered zero c l = omega arith
    iter_ordered (suc k) c l = F.consistent (iter top T k) (iter_ordered k) c l

    pub least_ordered : (P : Assign) → IsLeast n top T P → (c : ℕ) → c < n → Ordered (P c)
    unfolding lfp
    least_ordered P p c l = subst Ordered (least_unique plain_least p c l) (iter_ordered (n * (top + top)) c l)
