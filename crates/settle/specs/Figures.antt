-- The figures of a page at an end. Assumes nothing.
use Rattle.std.specs.Prelude.{◌≡◌, List, ℕ}
use Rattle.semantics.specs.Area.{top_of, conditions_of}
use Rattle.semantics.specs.Grade.{rounding}
use Rattle.value.specs.Table.{side}
use Rattle.settle.specs.Scratch.{base_of}
use Rattle.settle.specs.declared.Figures.{Figures}

-- how many conditions there are, where the table of the end begins, and what the end adds before a division
pub record FiguresOf (a : List ℕ) (f : Figures) : Type 0 where
  pub size : f.n ≡ conditions_of a
  pub begins : f.base ≡ base_of f.n (side f.end)
  pub adds : f.add ≡ rounding (side f.end) (top_of a)
