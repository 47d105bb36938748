-- The knowledge order on intervals and assignments. Assumes nothing.
use Rattle.std.specs.Prelude.{◌≡◌, Bool, true, ℕ, ◌≤◌, ◌<◌, min, max}
use Rattle.fixpoint.specs.Interval.{Interval, Assign}

-- p is at or under q: q knows at least what p knows
pub record Under (p q : Interval) : Type 0 where
  pub lows : p.low ≤ q.low
  pub highs : q.high ≤ p.high

-- [0; top]: nothing is known
abbrev pub unknown : ℕ → Interval
unknown top = record { low = 0; high = top }

-- [0; 0]
abbrev pub certainly_false : Interval
certainly_false = record { low = 0; high = 0 }

-- the least assignment
unfoldable pub bottom : ℕ → Assign
bottom top c = unknown top

-- I ⊕ J: what I and J know together
abbrev pub join : Assign → Assign → Assign
join I J c = record { low = max (I c).low (J c).low; high = min (I c).high (J c).high }

-- I and J are the same on a set of conditions
abbrev pub Alike : ℕ → (ℕ → Bool) → Assign → Assign → Type 0
Alike n reached I J = (c : ℕ) → c < n → reached c ≡ true → I c ≡ J c
