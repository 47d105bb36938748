-- The rounds: what holds of the scratch between them. Assumes nothing.
use Rattle.std.specs.Prelude.{◌≡◌, ◌≢◌, ◌⊎◌, Bool, true, false, cond, List, ℕ, ◌+◌, ◌*◌, ◌-◌, ◌≤◌, ◌<◌, length, get_or, set, drop}
use Rattle.fixpoint.specs.Interval.{Assign}
use Rattle.fixpoint.specs.KnowledgeOrder.{Under}
use Rattle.fixpoint.specs.AlternatingFixpoint.{floor, lows}
use Rattle.fixpoint.specs.Sum.{sum}
use Rattle.fixpoint.specs.ChaoticIteration.{DependencyClosed}
use Rattle.fixpoint.specs.Tables.{Turned, Topped}
use Rattle.fixpoint.specs.WellFounded.{closed}
use Rattle.semantics.specs.Area.{page_of, top_of, conditions_of}
use Rattle.semantics.specs.Body.{T, unknown_by_default}
use Rattle.semantics.specs.Grade.{lower}
use Rattle.semantics.specs.Page.{Line, names}
use Rattle.semantics.specs.Table.{member}
use Rattle.bits.specs.Words.{has}
use Rattle.index.specs.Readers.{lines_read}
use Rattle.settle.specs.Scratch.{held, room_at, Half, RestsAt}
use Rattle.settle.specs.Waiting.{WaitSet}
use Rattle.unknowns.specs.NextHighs.{sought}

-- every reached condition waits
pub record MarkedWait (n : ℕ) (m : List Bool) (words : List ℕ) : Type 0 where
  pub set : WaitSet n words
  pub waits : (c : ℕ) → c < n → member m c ≡ true → has words c ≡ true

-- every high end starts anew over the low ends, but for those of the conditions that are unknown by default
pub record HighsBegun (a s s' : List ℕ) : Type 0 where
  pub same_length : length s' ≡ length s
  pub lows : (c : ℕ) → c < conditions_of a → get_or s' (2 * c) 0 ≡ get_or s (2 * c) 0
  pub highs : (c : ℕ) → c < conditions_of a
      → get_or s' (2 * conditions_of a + 2 * c) 0 ≡ cond (unknown_by_default (page_of a) c) (get_or s (2 * conditions_of a + 2 * c) 0) 0
  pub negated : (c : ℕ) → c < conditions_of a → get_or s' (2 * conditions_of a + (2 * c + 1)) 0 ≡ top_of a - get_or s (2 * c) 0
  pub negations : (c : ℕ) → c < conditions_of a → get_or s' (2 * c + 1) 0 ≡ get_or s (2 * c + 1) 0
  pub beyond : drop (4 * conditions_of a) s' ≡ drop (4 * conditions_of a) s

-- the negation of c has its number over the high ends, and if there is an index and the number is another, whoever negates c waits
pub record Renegated (a : List ℕ) (indexed : Bool) (c : ℕ) (s s' words words' : List ℕ) : Type 0 where
  pub stored : s' ≡ set s (2 * c + 1) (top_of a - get_or s (2 * conditions_of a + 2 * c) 0)
  pub set_in : WaitSet (conditions_of a) words'
  pub kept : (d : ℕ) → d < 512 → has words d ≡ true → has words' d ≡ true
  pub woken : (indexed ≡ false) ⊎ (get_or s (2 * c + 1) 0 ≢ top_of a - get_or s (2 * conditions_of a + 2 * c) 0 → (h : ℕ) → lines_read (2 * c + 1) (page_of a).lines h ≡ true → has words' h ≡ true)

-- all negations have
pub record Woke (a : List ℕ) (indexed : Bool) (s s' words words' : List ℕ) : Type 0 where
  pub set_in : WaitSet (conditions_of a) words'
  pub kept : (d : ℕ) → d < 512 → has words d ≡ true → has words' d ≡ true
  pub woken : (indexed ≡ false) ⊎ ((c : ℕ) → c < conditions_of a → get_or s (2 * c + 1) 0 ≢ get_or s' (2 * c + 1) 0 → (h : ℕ) → lines_read (2 * c + 1) (page_of a).lines h ≡ true → has words' h ≡ true)

-- the intervals over which the low ends were settled last
abbrev pub past : (a s : List ℕ) → Assign
past a s c = record { low = get_or s (2 * c) 0; high = top_of a - get_or s (2 * c + 1) 0 }

-- if there is an index, whoever is reached and does not wait holds what T made of it then
pub record LowsWait (a : List ℕ) (m : List Bool) (indexed : Bool) (s words : List ℕ) : Type 0 where
  pub set_in : WaitSet (conditions_of a) words
  pub rests : indexed ≡ true → (c : ℕ) → c < conditions_of a → member m c ≡ true → has words c ≡ false → (T (page_of a) (past a s) c).low ≤ get_or s (2 * c) 0

-- every low end goes on over the high ends
pub record LowsBegun (a s s' : List ℕ) : Type 0 where
  pub same_length : length s' ≡ length s
  pub intervals : (c : ℕ) → c < conditions_of a → held (conditions_of a) s' c ≡ held (conditions_of a) s c
  pub negated : (c : ℕ) → c < conditions_of a → get_or s' (2 * c + 1) 0 ≡ top_of a - get_or s (2 * conditions_of a + 2 * c) 0
  pub negations : (c : ℕ) → c < conditions_of a → get_or s' (2 * conditions_of a + (2 * c + 1)) 0 ≡ get_or s (2 * conditions_of a + (2 * c + 1)) 0
  pub beyond : drop (4 * conditions_of a) s' ≡ drop (4 * conditions_of a) s

-- the numbers that the negations of the high ends read
abbrev pub HighsIn : (a s : List ℕ) → Type 0
HighsIn a s = (4 * conditions_of a ≤ length s) × ((c : ℕ) → c < conditions_of a → get_or s (2 * conditions_of a + 2 * c) 0 ≤ top_of a)

-- the numbers that a comparison of the negations reads
pub record Comparable (a s : List ℕ) : Type 0 where
  pub long : 4 * conditions_of a ≤ length s
  pub within : (c : ℕ) → c < conditions_of a → get_or s (2 * c) 0 ≤ top_of a

-- the negation of c has at its high end the number over the low end that is held now
abbrev pub Fresh : (a s : List ℕ) → ℕ → Type 0
Fresh a s c = get_or s (2 * conditions_of a + (2 * c + 1)) 0 ≡ top_of a - get_or s (2 * c) 0

-- the negations have at their high ends the numbers over the low ends that are held
pub record Refreshed (a s s' : List ℕ) : Type 0 where
  pub same_length : length s' ≡ length s
  pub under : (i : ℕ) → i < 2 * conditions_of a → get_or s' i 0 ≡ get_or s i 0
  pub highs : (c : ℕ) → c < conditions_of a → get_or s' (2 * conditions_of a + 2 * c) 0 ≡ get_or s (2 * conditions_of a + 2 * c) 0
  pub fresh : (c : ℕ) → c < conditions_of a → Fresh a s' c
  pub beyond : drop (4 * conditions_of a) s' ≡ drop (4 * conditions_of a) s

-- a search for a negation that is not fresh among literals: there is one, or all are fresh
pub record Searched (a s : List ℕ) (literal : ℕ → Type 0) (found : Bool) : Type 0 where
  pub one : found ≡ true → (c : ℕ) × (c < conditions_of a) × (Fresh a s c → ⊥)
  pub all : found ≡ false → (c : ℕ) → literal (2 * c + 1) → Fresh a s c

-- some line of a list, of whatever head, has the literal
abbrev pub LinesHave : List Line → ℕ → Type 0
LinesHave ls code = (h : ℕ) × (lines_read code ls h ≡ true)

-- the round k, on what is reached
abbrev pub TurnedAt : List ℕ → (ℕ → Bool) → ℕ → Assign → Type 0
TurnedAt a reached k I = Turned (conditions_of a) (top_of a) (T (page_of a)) (unknown_by_default (page_of a)) reached k I

abbrev pub ToppedAt : List ℕ → (ℕ → Bool) → ℕ → Assign → Type 0
ToppedAt a reached k I = Topped (conditions_of a) (top_of a) (T (page_of a)) (unknown_by_default (page_of a)) reached k I

abbrev pub closed_at : List ℕ → Assign
closed_at a = closed (conditions_of a) (top_of a) (T (page_of a)) (unknown_by_default (page_of a))

-- what a fall of high ends reads
pub record Fallible (a : List ℕ) (m : List Bool) (next s words : List ℕ) : Type 0 where
  pub long : 4 * conditions_of a ≤ length s
  pub marked : conditions_of a ≤ length m
  pub room_for : conditions_of a ≤ length next
  pub within : (c : ℕ) → c < conditions_of a → get_or s (2 * conditions_of a + 2 * c) 0 ≤ top_of a
  pub negated : (c : ℕ) → c < conditions_of a → get_or s (2 * c + 1) 0 ≡ top_of a - get_or s (2 * conditions_of a + 2 * c) 0
  pub set_in : WaitSet (conditions_of a) words

-- the high end of c is above the next one
abbrev pub Falls : (a : List ℕ) (m : List Bool) (next s : List ℕ) → ℕ → Type 0
Falls a m next s c = (sought a m c ≡ true) × (get_or next c 0 < get_or s (2 * conditions_of a + 2 * c) 0)

-- the high end of c falls to the next one, and whoever negates c waits; or nothing is done
pub record Lowered (a : List ℕ) (m : List Bool) (indexed : Bool) (next : List ℕ) (c : ℕ) (s s' words words' : List ℕ) (fell : Bool) : Type 0 where
  pub still : fell ≡ false → (s' ≡ s) × (words' ≡ words) × (sought a m c ≡ true → get_or s (2 * conditions_of a + 2 * c) 0 ≤ get_or next c 0)
  pub falls : fell ≡ true → Falls a m next s c × Renegated a indexed c (set s (2 * conditions_of a + 2 * c) (get_or next c 0)) s' words words'

-- every high end that is above the next one falls
pub record Fell (a : List ℕ) (m : List Bool) (indexed : Bool) (next s s' words' : List ℕ) (fell : Bool) : Type 0 where
  pub same_length : length s' ≡ length s
  pub lows : (c : ℕ) → c < conditions_of a → get_or s' (2 * c) 0 ≡ get_or s (2 * c) 0
  pub falls : (c : ℕ) → c < conditions_of a
      → (get_or s' (2 * conditions_of a + 2 * c) 0 ≡ get_or s (2 * conditions_of a + 2 * c) 0) ⊎ (Falls a m next s c × (get_or s' (2 * conditions_of a + 2 * c) 0 ≡ get_or next c 0))
  pub down : (c : ℕ) → c < conditions_of a → sought a m c ≡ true → get_or s' (2 * conditions_of a + 2 * c) 0 ≤ get_or next c 0
  pub negated : (c : ℕ) → c < conditions_of a → get_or s' (2 * c + 1) 0 ≡ top_of a - get_or s' (2 * conditions_of a + 2 * c) 0
  pub beyond : drop (4 * conditions_of a) s' ≡ drop (4 * conditions_of a) s
  pub set_in : WaitSet (conditions_of a) words'
  pub woken : (indexed ≡ false) ⊎ ((c : ℕ) → c < conditions_of a → get_or s' (2 * conditions_of a + 2 * c) 0 ≢ get_or s (2 * conditions_of a + 2 * c) 0
      → (h : ℕ) → lines_read (2 * c + 1) (page_of a).lines h ≡ true → has words' h ≡ true)
  pub still : fell ≡ false → (c : ℕ) → c < conditions_of a → get_or s' (2 * conditions_of a + 2 * c) 0 ≡ get_or s (2 * conditions_of a + 2 * c) 0
  pub moves : fell ≡ true → (c : ℕ) × (c < conditions_of a) × Falls a m next s c × (get_or s' (2 * conditions_of a + 2 * c) 0 ≡ get_or next c 0)

-- how much is left to learn: the room of the low ends, and the high ends of the conditions that are unknown by default
abbrev pub free_highs : (a s : List ℕ) → ℕ
free_highs a s = sum (conditions_of a) (λ c. cond (unknown_by_default (page_of a) c) (held (conditions_of a) s c).high 0)

abbrev pub to_learn : (a s : List ℕ) → ℕ
to_learn a s = room_at lower a s + free_highs a s

-- the floor held, and the least over the other high ends
abbrev pub floor_at : (a s : List ℕ) → Assign
floor_at a s = floor (top_of a) (unknown_by_default (page_of a)) (held (conditions_of a) s)

abbrev pub next_floor_at : (a s : List ℕ) → Assign
next_floor_at a s = lows (conditions_of a) (top_of a) (T (page_of a)) (unknown_by_default (page_of a)) (held (conditions_of a) s)

-- the floor on its way there
pub record FloorHalf (a : List ℕ) (m : List Bool) (s : List ℕ) : Type 0 where
  pub half : Half lower a m s
  pub under : (c : ℕ) → c < conditions_of a → member m c ≡ true → Under (floor_at a s c) (next_floor_at a s c)

-- what every step of it keeps
pub record FloorKept (a : List ℕ) (m : List Bool) (s s' : List ℕ) : Type 0 where
  pub same_length : length s' ≡ length s
  pub others : (c : ℕ) → c < conditions_of a → unknown_by_default (page_of a) c ≡ false → (held (conditions_of a) s' c).high ≡ (held (conditions_of a) s c).high
  pub apart : (c : ℕ) → c < conditions_of a → member m c ≡ false → (held (conditions_of a) s' c).low ≡ (held (conditions_of a) s c).low
  pub less : to_learn a s' ≤ to_learn a s
  pub beyond : drop (4 * conditions_of a) s' ≡ drop (4 * conditions_of a) s

abbrev pub AllRest : (a : List ℕ) (m : List Bool) (s : List ℕ) → Type 0
AllRest a m s = (c : ℕ) → c < conditions_of a → member m c ≡ true → RestsAt lower a s c

abbrev pub SameIntervals : (a s s' : List ℕ) → Type 0
SameIntervals a s s' = (c : ℕ) → c < conditions_of a → held (conditions_of a) s' c ≡ held (conditions_of a) s c

-- high ends of the conditions that are unknown by default fall and the low ends are settled again; or T lowers none of these high ends
pub record FloorStep (a : List ℕ) (m : List Bool) (s s' : List ℕ) (fell : Bool) : Type 0 where
  pub kept : FloorKept a m s s'
  pub half : FloorHalf a m s'
  pub rests : AllRest a m s'
  pub still : fell ≡ false → SameIntervals a s s'
  pub down : fell ≡ false → (c : ℕ) → c < conditions_of a → member m c ≡ true → unknown_by_default (page_of a) c ≡ true
      → (held (conditions_of a) s' c).high ≤ (T (page_of a) (held (conditions_of a) s') c).high
  pub moves : fell ≡ true → to_learn a s' < to_learn a s

-- the floor is there
pub record Floored (a : List ℕ) (m : List Bool) (s s' : List ℕ) (moved : Bool) : Type 0 where
  pub kept : FloorKept a m s s'
  pub half : Half lower a m s'
  pub rests : AllRest a m s'
  pub ends : (c : ℕ) → c < conditions_of a → member m c ≡ true → floor_at a s' c ≡ next_floor_at a s c
  pub still : moved ≡ false → SameIntervals a s s'
  pub moves : moved ≡ true → to_learn a s' < to_learn a s

-- before a round: the floor is that of round k, and a low end 0 wherever a condition is not reached
pub record RoundReady (a : List ℕ) (m : List Bool) (s : List ℕ) : Type 0 where
  pub long : 4 * conditions_of a ≤ length s
  pub marked : conditions_of a ≤ length m
  pub shut : DependencyClosed (conditions_of a) (names (page_of a)) (member m)
  pub within : (c : ℕ) → c < conditions_of a → get_or s (2 * c) 0 ≤ top_of a
  pub highs_in : (c : ℕ) → c < conditions_of a → unknown_by_default (page_of a) c ≡ true → get_or s (2 * conditions_of a + 2 * c) 0 ≤ top_of a
  pub apart : (c : ℕ) → c < conditions_of a → member m c ≡ false → get_or s (2 * c) 0 ≡ 0
  pub round : ℕ
  pub turned : TurnedAt a (member m) round (held (conditions_of a) s)

-- a round leaves the next state; if no end moved that is read again, it leaves the closed reading on what is reached
pub record Rounded (a : List ℕ) (m : List Bool) (s s' : List ℕ) (moved : Bool) : Type 0 where
  pub same_length : length s' ≡ length s
  pub beyond : drop (4 * conditions_of a) s' ≡ drop (4 * conditions_of a) s
  pub next : RoundReady a m s'
  pub ends : moved ≡ false → (c : ℕ) → c < conditions_of a → member m c ≡ true → held (conditions_of a) s' c ≡ closed_at a c
  pub moves : moved ≡ true → to_learn a s' < to_learn a s

-- all rounds
pub record Alternated (a : List ℕ) (m : List Bool) (s s' : List ℕ) : Type 0 where
  pub same_length : length s' ≡ length s
  pub beyond : drop (4 * conditions_of a) s' ≡ drop (4 * conditions_of a) s
  pub reads_closed : (c : ℕ) → c < conditions_of a → member m c ≡ true → held (conditions_of a) s' c ≡ closed_at a c
