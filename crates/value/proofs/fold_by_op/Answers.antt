-- `fold_by_op` folds by the closure of the op.
use Prim.Native.Nat.{min, max}
use native.Mathlib.Omega.{arith}
use Rattle.std.proofs.Common.{rules}
use Rattle.value.specs.LineEnds.{excess, bounded, product}
use Rattle.value.proofs.Folds.{folded_m, folded_x, folded_l, folded_b, folded_p}
use Rattle.value.proofs.fold_by_op.Goals as goal

pub returns-in-1 : goal.returns-in-1
returns-in-1 c = λ e q. folded_m _ _ e _ _ _ _ (omega arith) (c.fold.ensures min (λ p q r h. search rules))

pub returns-in-2 : goal.returns-in-2
returns-in-2 c = λ e q. folded_x _ _ e _ _ _ _ (omega arith) (c.fold-in-2.ensures max (λ p q r h. search rules))

pub returns-in-3 : goal.returns-in-3
returns-in-3 c = λ e q. folded_l _ _ e _ _ _ _ (omega arith) (c.fold-in-3.ensures (excess c.args.top) (λ p q r h. search rules))

pub returns-in-4 : goal.returns-in-4
returns-in-4 c = λ e q. folded_b _ _ e _ _ _ _ (omega arith) (c.fold-in-4.ensures (bounded c.args.top) (λ p q r h. search rules))

pub returns-in_default : goal.returns-in_default
returns-in_default c = λ e q. folded_p _ _ e _ _ _ _ (omega arith) q (c.fold-in_default.ensures (product c.args.add c.args.top) (λ p q r h. search rules))
