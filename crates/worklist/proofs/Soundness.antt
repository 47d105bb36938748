-- The soundness of a run area, cell by cell, in the code's own terms. Assumes nothing.
use mathlib.Core.Path.{◌≡◌, sym}
use mathlib.Core.Logic.{◌≢◌}
use mathlib.Core.Bool.{Bool, true, false, and-true}
use mathlib.Core.List.{List}
use Prim.Native.Nat.{ℕ, ◌*◌, ◌≤◌, ◌<◌}
use native.Mathlib.Omega.{arith}
use lib.Dec.{eqb}
use lib.ListN.{length}
use borrow.Author.Tests.{le-leb, lt-leb, eq-eqb, ne_eqb}
use Rattle.fixpoint.specs.Interval.{Interval, same}
use Rattle.semantics.specs.Area.{every, page_of, top_of, conditions_of}
use Rattle.semantics.specs.RunArea.{interval_at, mark_at, cell_tests, run_sound}
use Rattle.semantics.specs.Table.{all_below}

-- the tests of a cell, in the code's order
module _ (top : ℕ) (p : Interval) (mark : ℕ) where
  module _ (o : p.low ≤ p.high) where
    module _ (i : p.high ≤ top) where
      pub cell_marked : 2 < mark → false ≡ every (cell_tests top p mark)
      cell_marked h = rw (le-leb p.low p.high o, le-leb p.high top i, lt-leb mark 2 h)

      module _ (m : mark ≤ 2) where
        pub cell_reached : 0 < mark → true ≡ every (cell_tests top p mark)
        cell_reached h = rw (le-leb p.low p.high o, le-leb p.high top i, le-leb mark 2 m, le-leb 1 mark h)

        module _ (z : mark ≤ 0) where
          pub cell_low : p.low ≢ 0 → false ≡ every (cell_tests top p mark)
          unfolding same
          cell_low h = rw (le-leb p.low p.high o, le-leb p.high top i, le-leb mark 2 m, lt-leb 1 mark (omega arith), ne_eqb p.low 0 h)

          pub cell_high : p.low ≡ 0 → eqb p.high top ≡ every (cell_tests top p mark)
          unfolding same
          cell_high h = rw (le-leb p.low p.high o, le-leb p.high top i, le-leb mark 2 m, lt-leb 1 mark (omega arith), eq-eqb p.low 0 h) (sym (and-true (eqb p.high top)))

-- the test of a cell
abbrev pub cell_ok : List ℕ → ℕ → ℕ → Bool
cell_ok run top c = every (cell_tests top (interval_at run c) (mark_at run c))

-- the cells of the area of a page
module _ (a run : List ℕ) where
  pub run_short : length run < 3 * conditions_of a → false ≡ run_sound (page_of a) run
  unfolding run_sound page_of
  run_short h = rw (lt-leb (3 * conditions_of a) (length run) h)

  pub run_long : {n top : ℕ} → n ≡ conditions_of a → top ≡ top_of a → 3 * n ≤ length run → all_below n (cell_ok run top) ≡ run_sound (page_of a) run
  unfolding run_sound page_of
  run_long e t l = rw (e, t, le-leb (3 * conditions_of a) (length run) (rw e at l))
