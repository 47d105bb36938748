-- What a condition without F and R lines has: the low end is 0, and the high end is top where it is unknown by default. Assumes nothing.
use mathlib.Core.Path.{◌≡◌, refl}
use mathlib.Core.Bool.{Bool, true, false, cond}
use mathlib.Core.List.{List}
use Prim.Native.Nat.{ℕ, ◌≤◌}
use native.Mathlib.Omega.{arith}
use Rattle.fixpoint.specs.KnowledgeOrder.{unknown, certainly_false}
use Rattle.semantics.specs.Area.{page_of, top_of}
use Rattle.semantics.specs.Body.{bodyless, unknown_by_default}
use Rattle.semantics.specs.Grade.{End, lower, upper}
use Rattle.page.proofs.Head.{top_is}
use Rattle.value.specs.Table.{end_of}

module _ (a : List ℕ) (c : ℕ) where
  pub bodyless_free : unknown_by_default (page_of a) c ≡ true → bodyless (page_of a) c ≡ record { low = 0; high = top_of a }
  unfolding bodyless
  bodyless_free e = rw (e, top_is a)

  pub bodyless_kept : unknown_by_default (page_of a) c ≡ false → bodyless (page_of a) c ≡ record { low = 0; high = 0 }
  unfolding bodyless
  bodyless_kept e = rw e

  pub bodyless_low : (bodyless (page_of a) c).low ≡ 0
  unfolding bodyless
  bodyless_low = go (unknown_by_default (page_of a) c)
    where
      go : (b : Bool) → (cond b (unknown (page_of a).top) certainly_false).low ≡ 0
      go true = refl
      go false = refl

  -- its ends are grades
  pub bodyless_in : (e : End) → end_of e (bodyless (page_of a) c) ≤ top_of a
  unfolding bodyless
  bodyless_in e = go e (unknown_by_default (page_of a) c)
    where
      go : (e : End) (b : Bool) → end_of e (cond b (unknown (page_of a).top) certainly_false) ≤ top_of a
      go lower true = omega arith
      go upper true = omega (arith, top_is a)
      go lower false = omega arith
      go upper false = omega arith
