-- `product` of two grades is a grade.
use native.Mathlib.Omega.{arith}
use Rattle.page.proofs.Entries.{small_product}
use Rattle.value.proofs.Dividing.{product_adds, product_bounded}
use Rattle.value.proofs.product.Goals as goal

pub overflow_mul-p : goal.overflow_mul-p
overflow_mul-p c = record { fits = small_product (omega arith) (omega arith) }

pub quotient-requires : goal.quotient-requires
quotient-requires c = let r = c.requires in product_adds (omega arith) r.0 r.1 r.2 r.3

pub returns-clause-grade : goal.returns-clause-grade
returns-clause-grade c = let r = c.requires in rw c.quotient.ensures (product_bounded r.1 r.2 r.3)
