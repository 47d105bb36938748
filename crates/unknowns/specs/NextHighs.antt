-- The next high ends of the reached conditions that are unknown by default, step by step. Assumes nothing.
use Rattle.std.specs.Prelude.{◌≡◌, ◌⊎◌, Bool, true, false, cond, ◌&&◌, List, [], ◌∷◌, ℕ, ◌+◌, ◌*◌, ◌-◌, ◌≤◌, ◌<◌, max, eqb, length, get_or, set, drop}
use Rattle.fixpoint.specs.Interval.{Interval, Within, Assign}
use Rattle.semantics.specs.Area.{line_at, page_of, top_of, conditions_of}
use Rattle.semantics.specs.Body.{line_body, T, unknown_by_default}
use Rattle.semantics.specs.Grade.{upper}
use Rattle.semantics.specs.Table.{member}
use Rattle.page.specs.Places.{LineOf}
use Rattle.value.specs.Table.{EndTable}
use Rattle.value.specs.LineEnds.{LineEnd}
use Rattle.settle.specs.Scratch.{held}

-- c is reached and unknown by default
abbrev pub sought : List ℕ → List Bool → ℕ → Bool
sought a m c = member m c && unknown_by_default (page_of a) c

-- a mark and an entry for each condition
pub record Places (a : List ℕ) (m : List Bool) (next : List ℕ) : Type 0 where
  pub marked : conditions_of a ≤ length m
  pub long : conditions_of a ≤ length next

-- only the entries of conditions sought may be others
pub record Steady (a : List ℕ) (m : List Bool) (next next' : List ℕ) : Type 0 where
  pub same_length : length next' ≡ length next
  pub others : (c : ℕ) → (c < conditions_of a → sought a m c ≡ false) → get_or next' c 0 ≡ get_or next c 0

-- the entry of every condition sought is what f makes of it, and every other is as it was
pub record Mapped (a : List ℕ) (m : List Bool) (f : ℕ → ℕ → ℕ) (next next' : List ℕ) : Type 0 where
  pub steady : Steady a m next next'
  pub each : (c : ℕ) → c < conditions_of a → sought a m c ≡ true → get_or next' c 0 ≡ f c (get_or next c 0)

-- the entry of the head of the line at a place becomes 1 more than the line's high end, if it is below that
pub record Taken (a values : List ℕ) (at : ℕ) (next next' : List ℕ) : Type 0 where
  pub high_end : ℕ
  pub high_is : LineEnd upper a values at high_end
  pub stored : next' ≡ set next (get_or a at 0) (max (get_or next (get_or a at 0) 0) (high_end + 1))

-- it does so for an F or R line of a condition sought; any other line changes nothing
pub record TakenLine (a : List ℕ) (m : List Bool) (values : List ℕ) (at : ℕ) (next next' : List ℕ) : Type 0 where
  pub here : LineOf a (get_or a at 0) at
  pub head : sought a m (get_or a at 0) ≡ true
  pub taken : Taken a values at next next'

pub record PassedLine (a : List ℕ) (m : List Bool) (at : ℕ) (next next' : List ℕ) : Type 0 where
  pub not_here : (c : ℕ) → LineOf a c at → sought a m c ≡ false
  pub same : next' ≡ next

abbrev pub Looked : (a : List ℕ) (m : List Bool) (values : List ℕ) (at : ℕ) (next next' : List ℕ) → Type 0
Looked a m values at next next' = PassedLine a m at next next' ⊎ TakenLine a m values at next next'

-- x is 0, or 1 more than the high end that a line of c has at I; and it is above that of every line of c seen
pub record Above (a : List ℕ) (I : Assign) (Seen : ℕ → Type 0) (c x : ℕ) : Type 0 where
  pub some : (x ≡ 0) ⊎ ((p : ℕ) × LineOf a c p × (q : Interval) × (line_body (top_of a) I c (line_at (drop p a)) ≡ q ∷ []) × (x ≡ q.high + 1))
  pub most : (p : ℕ) → Seen p → LineOf a c p → (q : Interval) → line_body (top_of a) I c (line_at (drop p a)) ≡ q ∷ [] → q.high < x

-- from entries of 0, every condition sought has one for all its lines, at every assignment of that table
pub record Swept (a : List ℕ) (m : List Bool) (values next next' : List ℕ) : Type 0 where
  pub steady : Steady a m next next'
  pub above : (I : Assign) → EndTable upper (top_of a) (conditions_of a) I values → (c : ℕ) → c < conditions_of a → sought a m c ≡ true → get_or next c 0 ≡ 0
      → Above a I (LineOf a c) c (get_or next' c 0)

-- the high end that an entry stands for, where d is that of a condition without lines
abbrev pub high_from : (d x : ℕ) → ℕ
high_from d x = cond (eqb x 0) d (x - 1)

-- the intervals held are grades, and the negations at the high end are those of the low ends held
pub record HighTable (a s : List ℕ) : Type 0 where
  pub long : 4 * conditions_of a ≤ length s
  pub within : (c : ℕ) → c < conditions_of a → Within (top_of a) (held (conditions_of a) s c)
  pub negated : (c : ℕ) → c < conditions_of a → get_or s (2 * conditions_of a + (2 * c + 1)) 0 ≡ top_of a - get_or s (2 * c) 0

-- the next high end of every condition sought is that of its body value at the intervals held
abbrev pub NextHighs : (a : List ℕ) (m : List Bool) (s next next' : List ℕ) → Type 0
NextHighs a m s next next' = Mapped a m (λ c x. (T (page_of a) (held (conditions_of a) s) c).high) next next'
