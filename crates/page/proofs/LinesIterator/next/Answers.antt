-- `Lines::next` gives the place where it stands, and moves behind the entry there.
use native.Mathlib.Omega.{arith}
use mathlib.Core.Path.{refl}
use Rattle.page.proofs.LineNumbers.{place_next}
use Rattle.page.proofs.Scanning.{entry_here, scanning_next}
use Rattle.page.proofs.LinesIterator.next.Goals as goal

pub bounds-a-at : goal.bounds-a-at
bounds-a-at c = let e = entry_here _ c.args.self.now.scanning (omega (arith, c.args.self.now.counted)) in omega (arith, e.four)

pub bounds-a-at-2 : goal.bounds-a-at-2
bounds-a-at-2 c = let e = entry_here _ c.args.self.now.scanning (omega (arith, c.args.self.now.counted)) in omega (arith, e.four)

pub invariant_of-self : goal.invariant_of-self
invariant_of-self c =
    let s = c.args.self.now in
    rw c.span_of.ensures
    (record { counted = omega (arith, s.counted); scanning = scanning_next _ s.scanning (omega (arith, s.counted)); placed = place_next s.numbers.now s.placed (record { place = refl; count = refl }) })
