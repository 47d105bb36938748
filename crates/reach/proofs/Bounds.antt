-- R + top × E of every page fits 32 bits. Assumes nothing.
use mathlib.Core.Bool.{Bool, ◌&&◌}
use mathlib.Core.List.{List}
use Prim.Native.Nat.{ℕ, ◌+◌, ◌*◌, ◌≤◌}
use native.Mathlib.Nat.{mul-le-mul}
use native.Mathlib.Omega.{arith}
use Rattle.fixpoint.specs.Sum.{count}
use Rattle.fixpoint.proofs.Sum.{sum_le, sum_const}
use Rattle.semantics.specs.Page.{Page, names}
use Rattle.semantics.specs.Reading.{count_r, count_e, bound}
use Rattle.semantics.specs.Table.{member}
use Rattle.semantics.proofs.Proper.{Proper}
use Rattle.reach.proofs.Inserting.{size_most}

pub bound_few : (page : Page) → Proper page → (m : List Bool) → bound page m ≤ 512 + 200 * (512 * 512)
unfolding bound count_r count_e
bound_few page w m =
    let n = page.conditions in
    let pairs : count_e page m ≤ 512 * 512 = omega (
      arith,
      sum_le n (λ a. count n (pairs_of a)) (λ a. n) (λ a l. size_most n (pairs_of a)),
      sum_const n n,
      mul-le-mul w.conditions_most w.conditions_most,
    ) in
    omega (arith, size_most n (member m), w.conditions_most, mul-le-mul w.top_most pairs)
  where
    pairs_of : ℕ → ℕ → Bool
    pairs_of a b = member m a && (member m b && names page a b)
