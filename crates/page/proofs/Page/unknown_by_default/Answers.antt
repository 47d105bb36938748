-- `unknown_by_default` reads the D number, which a sound area has right.
use native.Mathlib.Omega.{arith}
use Rattle.page.proofs.Defaults.{default_told, numbers_inside}
use Rattle.page.proofs.Page.unknown_by_default.Goals as goal

pub bounds-self-inside-c : goal.bounds-self-inside-c
bounds-self-inside-c c = let l = rw (← c.self.view_is) at c.requires in omega (arith, l, numbers_inside c.self.inside.numbers.now c.self.invariant)

pub returns : goal.returns
returns c = rw (← c.self.view_is) (default_told c.self.inside.numbers.now c.self.invariant c.args.c (rw (← c.self.view_is) at c.requires))
