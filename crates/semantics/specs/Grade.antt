-- Document 01, "Grades and intervals", and the op letters of "The page". Assumes nothing.
-- Intervals, the knowledge order and joining knowledge are those of `fixpoint` (Interval, KnowledgeOrder).
use Rattle.std.specs.Prelude.{List, [], ◌∷◌, ℕ, ◌+◌, ◌*◌, ◌-◌, ◌/◌, min, max}
use Rattle.fixpoint.specs.Interval.{Interval}

-- the two ends of an interval
pub data End : Type 0 where
  lower upper : End

-- "every division rounds the low end down and the high end up" (ticket 2): what is added before a division by top, 0 to round down and
-- top − 1 to round up
unfoldable pub rounding : End → ℕ → ℕ
rounding lower top = 0
rounding upper top = top - 1

-- x divided by top
unfoldable pub divided : End → ℕ → ℕ → ℕ
divided e x top = (x + rounding e top) / top

-- the op letters
pub data Op : Type 0 where
  M X L B P : Op

-- what an op makes of two grades p and q, at one end
unfoldable pub combine : ℕ → Op → End → ℕ → ℕ → ℕ
combine top M e p q = min p q
combine top X e p q = max p q
combine top L e p q = max 0 ((p + q) - top)
combine top B e p q = min top (p + q)
combine top P e p q = divided e (p * q) top

-- "for each end separately"
abbrev pub endwise : (End → ℕ → ℕ → ℕ) → Interval → Interval → Interval
endwise f p q = record { low = f lower p.low q.low; high = f upper p.high q.high }

-- "left to right": p, then the rest
unfoldable pub fold_from : (Interval → Interval → Interval) → Interval → List Interval → Interval
fold_from f p [] = p
fold_from f p (q ∷ qs) = fold_from f (f p q) qs

-- "One literal gives its own value." A rule has at least one; of none the value is [0;0].
unfoldable pub fold_all : (Interval → Interval → Interval) → List Interval → Interval
fold_all f [] = record { low = 0; high = 0 }
fold_all f (p ∷ qs) = fold_from f p qs

-- "multiplied by the weight and divided by top"
unfoldable pub weighted : ℕ → ℕ → Interval → Interval
weighted top w p = record { low = divided lower (p.low * w) top; high = divided upper (p.high * w) top }

-- "The negation of [a;b] is [top−b; top−a]": the ends change places
unfoldable pub negated : ℕ → Interval → Interval
negated top p = record { low = top - p.high; high = top - p.low }

-- [larger low; larger high], by which the lines of one head are combined
abbrev pub largest : Interval → Interval → Interval
largest = endwise (λ e. max)
