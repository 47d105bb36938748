-- `bits::Set::len` meets its contract. Assumes nothing.
use Rattle.std.proofs.Common.{◌≡◌, ℕ, ◌+◌, ◌∙◌, refl, ap, get_or, arith, add-one, below_none, below_more}
use lib.Count.{ones, ones-le}
use Rattle.fixpoint.specs.Sum.{sum}
use Rattle.bits.proofs.Ones.{words_count}
use Rattle.bits.proofs.Set.len.Goals as goal

pub loop-x-init : goal.loop-x-init
unfolding sum
loop-x-init c = (refl, omega arith, below_none _)

pub overflow_add-ones : goal.overflow_add-ones
overflow_add-ones c = omega (arith, ones-le 64 (get_or c.args.self.now.words c.loop-x.x-index 0) c.loop-x-test.element_fits.fits)

pub loop-x-preserved : goal.loop-x-preserved
unfolding sum
loop-x-preserved c =
    let h = c.loop-x in
    let fits = c.loop-x-test.element_fits.fits in (
      rw add-one (ap (λ (n : ℕ). n + ones (get_or c.args.self.now.words h.x-index 0)) h.invariant.0),
      omega (arith, ones-le 64 (get_or c.args.self.now.words h.x-index 0) fits),
      below_more _ _ h.invariant.2 fits,
    )

pub returns : goal.returns
returns c =
    let h = c.loop-x in
    let e : h.x-index ≡ 8 = omega arith in
    h.invariant.0 ∙ ap (λ (n : ℕ). sum n (λ v. ones (get_or c.args.self.now.words v 0))) e ∙ words_count c.args.self.now.words (λ v l. h.invariant.2 v (omega arith))
