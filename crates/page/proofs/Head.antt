-- The head numbers of a solvable page area. Assumes nothing.
use mathlib.Core.Path.{◌≡◌, refl}
use mathlib.Core.Bool.{true}
use mathlib.Core.List.{List}
use Prim.Native.Nat.{ℕ, ◌≤◌}
use lib.ListN.{length}
use Rattle.semantics.specs.Area.{page_of, top_of, conditions_of, count_of}
use Rattle.page.proofs.Scan.{solvable_head}
use Rattle.page.specs.Solvable.{solvable}
use Rattle.page.proofs.Solvable.{solvable_proper}

module _ (a : List ℕ) where
  pub record Head : Type 0 where
    pub four : 4 ≤ length a
    pub top_least : 1 ≤ top_of a
    pub top_most : top_of a ≤ 200
    pub few : conditions_of a ≤ 512
    pub count : count_of a ≤ 1536

  pub head_of : solvable a ≡ true → Head
  unfolding page_of
  head_of e =
      let h = solvable_head a e in
      let p = solvable_proper a e in
      record { four = h.0; top_least = p.top_least; top_most = p.top_most; few = p.conditions_most; count = h.2 }

  pub top_is : (page_of a).top ≡ top_of a
  unfolding page_of
  top_is = refl

  pub conditions_is : (page_of a).conditions ≡ conditions_of a
  unfolding page_of
  conditions_is = refl
