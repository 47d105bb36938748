-- The alternating fixed point: the closed reading by turns of two halves. Assumes nothing.
--
-- Half one is the high ends of the conditions that are not free; half two, the floor, is the low ends of all conditions
-- and the high ends of the free ones. Over a given floor the high ends are least (what may be false is);
-- over given high ends the floor is least in knowledge. Each narrows the other until neither changes.
use Rattle.std.specs.Prelude.{◌≡◌, Bool, false, not, ◌&&◌, cond, ℕ, suc, ◌+◌, ◌*◌, ◌≤◌, ◌<◌, min}
use Rattle.fixpoint.specs.Interval.{Interval, Within, Assign}
use Rattle.fixpoint.specs.KnowledgeOrder.{Under, unknown}
use Rattle.fixpoint.specs.LeastFixpoint.{iter, lfp}
use Rattle.fixpoint.specs.Support.{support}

-- the low end of p, and the high end of p if the condition is free, else of q
abbrev pub merge : Bool → Interval → Interval → Interval
merge free p q = record { low = p.low; high = cond free p.high q.high }

-- the two halves together: the floor of L and the high ends of H
abbrev pub mix : (ℕ → Bool) → Assign → Assign → Assign
mix free L H c = merge (free c) (L c) (H c)

-- the floor of L, and nothing else
abbrev pub floor : ℕ → (ℕ → Bool) → Assign → Assign
floor top free L c = merge (free c) (L c) (unknown top)

-- the high ends of H are the least that T makes of themselves and the floor of L
pub record IsHighs (n top : ℕ) (T : Assign → ℕ → Interval) (free : ℕ → Bool) (L H : Assign) : Type 0 where
  pub in_top : (c : ℕ) → c < n → free c ≡ false → (H c).high ≤ top
  pub fixed : (c : ℕ) → c < n → free c ≡ false → (H c).high ≡ (T (mix free L H) c).high
  pub least : (K : Assign) → ((c : ℕ) → c < n → free c ≡ false → (K c).high ≤ top) → ((c : ℕ) → c < n → free c ≡ false → (K c).high ≡ (T (mix free L K) c).high)
      → (c : ℕ) → c < n → free c ≡ false → (H c).high ≤ (K c).high

-- the floor of L is the least that T makes of itself and the high ends of H
pub record IsLows (n top : ℕ) (T : Assign → ℕ → Interval) (free : ℕ → Bool) (H L : Assign) : Type 0 where
  pub in_top : (c : ℕ) → c < n → Within top (floor top free L c)
  pub fixed : (c : ℕ) → c < n → floor top free L c ≡ floor top free (T (mix free L H)) c
  pub least : (K : Assign) → ((c : ℕ) → c < n → Within top (floor top free K c)) → ((c : ℕ) → c < n → floor top free K c ≡ floor top free (T (mix free K H)) c)
      → (c : ℕ) → c < n → Under (floor top free L c) (floor top free K c)

-- L and H are the two halves after k rounds
pub data Rounds (n top : ℕ) (T : Assign → ℕ → Interval) (free : ℕ → Bool) : Assign → Assign → ℕ → Type 0 where
  first : {L H : Assign} → ((c : ℕ) → c < n → floor top free L c ≡ unknown top) → IsHighs n top T free L H → Rounds n top T free L H 0
  again : {L H M G : Assign} {k : ℕ} → Rounds n top T free L H k → IsLows n top T free H M → IsHighs n top T free M G → Rounds n top T free M G (suc k)

-- The two halves, computed. The high ends are the support of the floor.
unfoldable pub highs : ℕ → ℕ → (Assign → ℕ → Interval) → (ℕ → Bool) → Assign → Assign
highs n top T free L = support n top T free (floor top free L)

-- The floor is a least fixed point. What T makes is cut off at top, so that high ends over top, as unreached conditions may hold, do no harm.
abbrev pub clip : ℕ → Interval → Interval
clip top p = record { low = min top p.low; high = min top p.high }

unfoldable pub lift : ℕ → (Assign → ℕ → Interval) → (ℕ → Bool) → Assign → Assign → Assign
lift top T free H X c = merge (free c) (clip top (T (mix free X H) c)) (unknown top)

unfoldable pub lows : ℕ → ℕ → (Assign → ℕ → Interval) → (ℕ → Bool) → Assign → Assign
lows n top T free H = lfp n top (lift top T free H)

-- a round, and the floor after k of them
unfoldable pub turn : ℕ → ℕ → (Assign → ℕ → Interval) → (ℕ → Bool) → Assign → Assign
turn n top T free L = lows n top T free (highs n top T free L)

unfoldable pub turns : ℕ → ℕ → (Assign → ℕ → Interval) → (ℕ → Bool) → ℕ → Assign
turns n top T free = iter top (turn n top T free)

unfoldable pub alternate : ℕ → ℕ → (Assign → ℕ → Interval) → (ℕ → Bool) → Assign
alternate n top T free = mix free (turns n top T free (n * (top + top))) (highs n top T free (turns n top T free (n * (top + top))))

-- who reads whom while the high ends are computed: a free condition reads nothing
abbrev pub heard : (ℕ → Bool) → (ℕ → ℕ → Bool) → ℕ → ℕ → Bool
heard free names a b = not (free a) && names a b
