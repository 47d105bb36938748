-- `body::by_scan` meets its contract. The loop's invariant: the lines passed are taken in. Assumes nothing.
use mathlib.Core.Path.{◌≡◌}
use Rattle.page.specs.Places.{place_of}
use Rattle.body.proofs.Gathering.{Gathering, Passed}
use Rattle.body.proofs.by_scan.Given as goal

abbrev pub invariant-loop-at : goal.invariant-loop-at
invariant-loop-at l =
    (l.at-iterator.numbers.now ≡ l.page) × (l.at-iterator.at ≡ place_of l.page l.at-iterator.passed) × Gathering l.page l.values l.c (Passed l.page l.at-iterator.passed) l.best
