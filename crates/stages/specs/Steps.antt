-- The steps of a round, one by one: what each leaves in the tables and in the sets. Assumes nothing.
--
-- The tables are those of settling an end. Between the next low ends and their taking over, the number behind a high end is top less the next
-- low end of its condition.
use Rattle.std.specs.Prelude.{◌≡◌, ◌≢◌, ◌⊎◌, Bool, true, false, cond, List, [], ◌∷◌, ℕ, ◌+◌, ◌*◌, ◌-◌, ◌≤◌, ◌<◌, length, get_or, set, take, drop}
use Rattle.fixpoint.specs.Interval.{Interval, Assign}
use Rattle.semantics.specs.Area.{line_at, page_of, top_of, conditions_of}
use Rattle.semantics.specs.Body.{line_body, T, unknown_by_default}
use Rattle.semantics.specs.Table.{member}
use Rattle.bits.specs.Sets.{Nobody}
use Rattle.bits.specs.Words.{has, Inserted}
use Rattle.index.specs.Readers.{lines_read}
use Rattle.value.specs.Table.{Grades}
use Rattle.settle.specs.Ends.{reads}
use Rattle.settle.specs.Waiting.{WaitSet}
use Rattle.rounds.specs.Round.{MarkedWait, past, Fresh, LinesHave}

-- the conditions that are unknown by default
abbrev pub free_at : List ℕ → ℕ → Bool
free_at a = unknown_by_default (page_of a)

-- whether a reached condition is free: if not, none is
abbrev pub FreeTold : (a : List ℕ) (m : List Bool) → Bool → Type 0
FreeTold a m free = free ≡ false → (c : ℕ) → c < conditions_of a → member m c ≡ true → free_at a c ≡ false

-- the next low end
abbrev pub ahead : (a s : List ℕ) → ℕ → ℕ
ahead a s c = top_of a - get_or s (2 * conditions_of a + (2 * c + 1)) 0

-- the intervals that the low table tells
abbrev pub seen : (a s : List ℕ) → Assign
seen a s = past a (take (2 * conditions_of a) s)

-- what noting a line asks
pub record Notable (a : List ℕ) (m : List Bool) (s moved : List ℕ) : Type 0 where
  pub long : 4 * conditions_of a ≤ length s
  pub marked : conditions_of a ≤ length m
  pub grades : Grades (top_of a) (conditions_of a) (take (2 * conditions_of a) s)
  pub set_in : WaitSet (conditions_of a) moved

-- the next low end of c rises to what a line of c adds, and c is noted
pub record RisesAt (a : List ℕ) (m : List Bool) (s s' moved' : List ℕ) (c : ℕ) : Type 0 where
  pub reached : member m c ≡ true
  pub less : get_or s' (2 * conditions_of a + (2 * c + 1)) 0 < get_or s (2 * conditions_of a + (2 * c + 1)) 0
  pub below : ahead a s' c ≤ (T (page_of a) (seen a s) c).low
  pub noted : has moved' c ≡ true

abbrev pub Unnoted : (a s s' moved moved' : List ℕ) → ℕ → Type 0
Unnoted a s s' moved moved' c =
    (get_or s' (2 * conditions_of a + (2 * c + 1)) 0 ≡ get_or s (2 * conditions_of a + (2 * c + 1)) 0) × (has moved' c ≡ has moved c)

-- next low ends were noted, and nothing else
pub record Noting (a : List ℕ) (m : List Bool) (s s' moved moved' : List ℕ) : Type 0 where
  pub same_length : length s' ≡ length s
  pub table : take (2 * conditions_of a) s' ≡ take (2 * conditions_of a) s
  pub highs : (c : ℕ) → c < conditions_of a → get_or s' (2 * conditions_of a + 2 * c) 0 ≡ get_or s (2 * conditions_of a + 2 * c) 0
  pub beyond : drop (4 * conditions_of a) s' ≡ drop (4 * conditions_of a) s
  pub set_in : WaitSet (conditions_of a) moved'
  pub each : (c : ℕ) → c < conditions_of a → Unnoted a s s' moved moved' c ⊎ RisesAt a m s s' moved' c

-- the line at a place adds to no reached condition a low end above its next one
abbrev pub Covers : List ℕ → List Bool → (s s' : List ℕ) → ℕ → Type 0
Covers a m s s' at =
    (c : ℕ) → c < conditions_of a → member m c ≡ true
    → (p : Interval) → line_body (top_of a) (seen a s) c (line_at (drop at a)) ≡ p ∷ [] → p.low ≤ ahead a s' c

pub record NotedAt (a : List ℕ) (m : List Bool) (at : ℕ) (s s' moved moved' : List ℕ) : Type 0 where
  pub noting : Noting a m s s' moved moved'
  pub covers : Covers a m s s' at

-- the lines at the first places, below a number, were noted
pub record Noted (a : List ℕ) (m : List Bool) (place : ℕ → ℕ) (to : ℕ) (s s' moved moved' : List ℕ) : Type 0 where
  pub noting : Noting a m s s' moved moved'
  pub covers : (i : ℕ) → i < to → Covers a m s s' (place i)

-- T makes no more of the low end of c than its next one is
abbrev pub Ahead : (a s s' : List ℕ) → ℕ → Type 0
Ahead a s s' c = (T (page_of a) (seen a s) c).low ≤ ahead a s' c

-- the next low ends of all
pub record AllNoted (a : List ℕ) (m : List Bool) (s s' moved moved' : List ℕ) : Type 0 where
  pub noting : Noting a m s s' moved moved'
  pub rests : (c : ℕ) → c < conditions_of a → member m c ≡ true → Ahead a s s' c

-- whoever is reached and does not wait holds what T makes of it
abbrev pub LowsRest : (a : List ℕ) (m : List Bool) (s lows : List ℕ) → Type 0
LowsRest a m s lows = (c : ℕ) → c < conditions_of a → member m c ≡ true → has lows c ≡ false → Ahead a s s c

-- the next low end of c is taken over; with an index whoever names c waits
pub record TakenOver (a : List ℕ) (indexed : Bool) (c : ℕ) (s s' lows lows' look look' : List ℕ) : Type 0 where
  pub stored : s' ≡ set s (2 * c) (ahead a s c)
  pub lows_in : WaitSet (conditions_of a) lows'
  pub look_in : WaitSet (conditions_of a) look'
  pub lows_kept : (d : ℕ) → d < 512 → has lows d ≡ true → has lows' d ≡ true
  pub look_kept : (d : ℕ) → d < 512 → has look d ≡ true → has look' d ≡ true
  pub lows_woken : (indexed ≡ false) ⊎ ((h : ℕ) → lines_read (2 * c) (page_of a).lines h ≡ true → has lows' h ≡ true)
  pub look_woken : (indexed ≡ false) ⊎ ((h : ℕ) → lines_read (2 * c + 1) (page_of a).lines h ≡ true → has look' h ≡ true)
  pub look_same : indexed ≡ false → look' ≡ look

-- what taking over asks: whoever did not move holds its next low end already
pub record TakeReady (a s moved lows look : List ℕ) : Type 0 where
  pub long : 4 * conditions_of a ≤ length s
  pub within : (c : ℕ) → c < conditions_of a → get_or s (2 * conditions_of a + (2 * c + 1)) 0 ≤ top_of a
  pub moved_in : WaitSet (conditions_of a) moved
  pub lows_in : WaitSet (conditions_of a) lows
  pub look_in : WaitSet (conditions_of a) look
  pub unmoved : (c : ℕ) → c < conditions_of a → has moved c ≡ false → get_or s (2 * c) 0 ≡ ahead a s c

-- all next low ends are taken over
pub record AllTaken (a : List ℕ) (indexed : Bool) (s s' lows lows' look look' : List ℕ) : Type 0 where
  pub same_length : length s' ≡ length s
  pub next : (c : ℕ) → c < conditions_of a → get_or s' (2 * c) 0 ≡ ahead a s c
  pub negations : (c : ℕ) → get_or s' (2 * c + 1) 0 ≡ get_or s (2 * c + 1) 0
  pub upper : (i : ℕ) → 2 * conditions_of a ≤ i → get_or s' i 0 ≡ get_or s i 0
  pub beyond : drop (4 * conditions_of a) s' ≡ drop (4 * conditions_of a) s
  pub lows_in : WaitSet (conditions_of a) lows'
  pub look_in : WaitSet (conditions_of a) look'
  pub lows_kept : (d : ℕ) → d < 512 → has lows d ≡ true → has lows' d ≡ true
  pub look_kept : (d : ℕ) → d < 512 → has look d ≡ true → has look' d ≡ true
  pub lows_woken : (indexed ≡ false) ⊎ ((c : ℕ) → c < conditions_of a → get_or s (2 * c) 0 ≢ ahead a s c → (h : ℕ) → lines_read (2 * c) (page_of a).lines h ≡ true → has lows' h ≡ true)
  pub look_same : indexed ≡ false → look' ≡ look
  pub look_woken : (indexed ≡ false) ⊎ ((c : ℕ) → c < conditions_of a → get_or s (2 * c) 0 ≢ ahead a s c → (h : ℕ) → lines_read (2 * c + 1) (page_of a).lines h ≡ true → has look' h ≡ true)

-- the high end of c, which is reached and above that of the closed reading, falls to it; with an index whoever names c plainly is looked at
pub record FellTop (a : List ℕ) (indexed : Bool) (m : List Bool) (tops : List ℕ) (c : ℕ) (s s' look look' lowered lowered' : List ℕ) (fell : Bool) : Type 0 where
  pub told : fell ≡ true
  pub reached : member m c ≡ true
  pub over : get_or tops c 0 < get_or s (2 * conditions_of a + 2 * c) 0
  pub stored : s' ≡ set s (2 * conditions_of a + 2 * c) (get_or tops c 0)
  pub lowered_in : Inserted c lowered lowered'
  pub look_in : WaitSet (conditions_of a) look'
  pub kept : (d : ℕ) → d < 512 → has look d ≡ true → has look' d ≡ true
  pub woken : (indexed ≡ false) ⊎ ((h : ℕ) → lines_read (2 * c) (page_of a).lines h ≡ true → has look' h ≡ true)
  pub look_same : indexed ≡ false → look' ≡ look

-- .. or nothing is done
pub record KeptTop (a : List ℕ) (m : List Bool) (tops : List ℕ) (c : ℕ) (s s' look look' lowered lowered' : List ℕ) (fell : Bool) : Type 0 where
  pub told : fell ≡ false
  pub same : s' ≡ s
  pub look_same : look' ≡ look
  pub lowered_same : lowered' ≡ lowered
  pub stands : member m c ≡ true → get_or s (2 * conditions_of a + 2 * c) 0 ≤ get_or tops c 0

abbrev pub LoweredTop : (a : List ℕ) (indexed : Bool) (m : List Bool) (tops : List ℕ) (c : ℕ) (s s' look look' lowered lowered' : List ℕ) (fell : Bool) → Type 0
LoweredTop a indexed m tops c s s' look look' lowered lowered' fell =
    KeptTop a m tops c s s' look look' lowered lowered' fell ⊎ FellTop a indexed m tops c s s' look look' lowered lowered' fell

-- what lowering asks
pub record LowerReady (a : List ℕ) (m : List Bool) (tops s look lowered : List ℕ) : Type 0 where
  pub long : 4 * conditions_of a ≤ length s
  pub marked : conditions_of a ≤ length m
  pub known : conditions_of a ≤ length tops
  pub look_in : WaitSet (conditions_of a) look
  pub lowered_in : WaitSet (conditions_of a) lowered

-- whether the high end of c fell
pub record FallsAt (a : List ℕ) (m : List Bool) (tops s s' lowered : List ℕ) (c : ℕ) : Type 0 where
  pub reached : member m c ≡ true
  pub over : get_or tops c 0 < get_or s (2 * conditions_of a + 2 * c) 0
  pub fallen : get_or s' (2 * conditions_of a + 2 * c) 0 ≡ get_or tops c 0
  pub noted : has lowered c ≡ true

pub record StaysAt (a s s' lowered : List ℕ) (c : ℕ) : Type 0 where
  pub same : get_or s' (2 * conditions_of a + 2 * c) 0 ≡ get_or s (2 * conditions_of a + 2 * c) 0
  pub unnoted : has lowered c ≡ false

-- c was not looked at, and names plainly nobody whose high end fell
pub record Unlooked (a look lowered : List ℕ) (c : ℕ) : Type 0 where
  pub out : has look c ≡ false
  pub plain : (b : ℕ) → b < conditions_of a → reads (page_of a) false c b ≡ true → has lowered b ≡ false

-- the high ends that could fall fell
pub record Lowered (a : List ℕ) (m : List Bool) (tops s s' look look' lowered : List ℕ) (fell : Bool) : Type 0 where
  pub same_length : length s' ≡ length s
  pub table : (i : ℕ) → i < 2 * conditions_of a → get_or s' i 0 ≡ get_or s i 0
  pub negations : (c : ℕ) → c < conditions_of a → get_or s' (2 * conditions_of a + (2 * c + 1)) 0 ≡ get_or s (2 * conditions_of a + (2 * c + 1)) 0
  pub beyond : drop (4 * conditions_of a) s' ≡ drop (4 * conditions_of a) s
  pub look_in : WaitSet (conditions_of a) look'
  pub lowered_in : WaitSet (conditions_of a) lowered
  pub drained : Nobody look'
  pub each : (c : ℕ) → c < conditions_of a → StaysAt a s s' lowered c ⊎ FallsAt a m tops s s' lowered c
  pub out : (c : ℕ) → c < conditions_of a → member m c ≡ true → has lowered c ≡ false → (get_or s' (2 * conditions_of a + 2 * c) 0 ≤ get_or tops c 0) ⊎ Unlooked a look lowered c
  pub none : fell ≡ false → (c : ℕ) → c < conditions_of a → has lowered c ≡ false
  pub one : fell ≡ true → (c : ℕ) × (c < conditions_of a) × (has lowered c ≡ true)

-- without an index everybody reached is looked at, or nobody
abbrev pub Whole : (indexed : Bool) (n : ℕ) (m : List Bool) (look : List ℕ) → Type 0
Whole indexed n m look = indexed ≡ false → MarkedWait n m look ⊎ Nobody look

-- there is an index and nothing is done, or everybody reached is looked at, or no high end fell and every negation is fresh: no low end that a
-- rule negates is another next
abbrev pub LookedAgain : (a : List ℕ) (indexed : Bool) (m : List Bool) (s look look' : List ℕ) (fell : Bool) → Type 0
LookedAgain a indexed m s look look' fell =
    ((indexed ≡ true) × (look' ≡ look))
    ⊎ (MarkedWait (conditions_of a) m look' ⊎ ((look' ≡ look) × (fell ≡ false) × ((c : ℕ) → LinesHave (page_of a).lines (2 * c + 1) → Fresh a s c)))

-- c is not free, and nothing is done
pub record NotFree (a : List ℕ) (c : ℕ) (s s' look look' lowered lowered' : List ℕ) (fell : Bool) : Type 0 where
  pub told : fell ≡ false
  pub same : s' ≡ s
  pub look_same : look' ≡ look
  pub lowered_same : lowered' ≡ lowered
  pub bound : free_at a c ≡ false

-- .. or c is free, and its high end falls or stays
abbrev pub LoweredFree : (a : List ℕ) (indexed : Bool) (m : List Bool) (tops : List ℕ) (c : ℕ) (s s' look look' lowered lowered' : List ℕ) (fell : Bool) → Type 0
LoweredFree a indexed m tops c s s' look look' lowered lowered' fell =
    NotFree a c s s' look look' lowered lowered' fell ⊎ ((free_at a c ≡ true) × LoweredTop a indexed m tops c s s' look look' lowered lowered' fell)

-- the high ends of the free conditions fell where their entries are lower; with an index whoever names such a one plainly is looked at
pub record FreeLowered (a : List ℕ) (indexed : Bool) (m : List Bool) (tops s s' look look' lowered : List ℕ) (fell : Bool) : Type 0 where
  pub same_length : length s' ≡ length s
  pub table : (i : ℕ) → i < 2 * conditions_of a → get_or s' i 0 ≡ get_or s i 0
  pub negations : (c : ℕ) → c < conditions_of a → get_or s' (2 * conditions_of a + (2 * c + 1)) 0 ≡ get_or s (2 * conditions_of a + (2 * c + 1)) 0
  pub beyond : drop (4 * conditions_of a) s' ≡ drop (4 * conditions_of a) s
  pub look_in : WaitSet (conditions_of a) look'
  pub lowered_in : WaitSet (conditions_of a) lowered
  pub each : (c : ℕ) → c < conditions_of a → StaysAt a s s' lowered c ⊎ (FallsAt a m tops s s' lowered c × (free_at a c ≡ true))
  pub stands : (c : ℕ) → c < conditions_of a → member m c ≡ true → free_at a c ≡ true → get_or s' (2 * conditions_of a + 2 * c) 0 ≤ get_or tops c 0
  pub woken : (indexed ≡ false) ⊎ ((c : ℕ) → c < conditions_of a → has lowered c ≡ true → (h : ℕ) → lines_read (2 * c) (page_of a).lines h ≡ true → has look' h ≡ true)
  pub look_same : indexed ≡ false → look' ≡ look
  pub none : fell ≡ false → (c : ℕ) → c < conditions_of a → has lowered c ≡ false
  pub one : fell ≡ true → (c : ℕ) × (c < conditions_of a) × (has lowered c ≡ true)

-- what taking over the next high ends asks
pub record HighsReady (a : List ℕ) (m : List Bool) (tops s look lows : List ℕ) : Type 0 where
  pub long : 4 * conditions_of a ≤ length s
  pub marked : conditions_of a ≤ length m
  pub known : conditions_of a ≤ length tops
  pub within : (c : ℕ) → c < conditions_of a → get_or s (2 * conditions_of a + 2 * c) 0 ≤ top_of a
  pub over_high : (c : ℕ) → c < conditions_of a → get_or s (2 * c + 1) 0 ≡ top_of a - get_or s (2 * conditions_of a + 2 * c) 0
  pub look_in : WaitSet (conditions_of a) look
  pub lows_in : WaitSet (conditions_of a) lows

-- the high end of c stays, or c is free and reached and its high end falls
pub record HighStays (a : List ℕ) (m : List Bool) (tops s s' : List ℕ) (c : ℕ) : Type 0 where
  pub same : get_or s' (2 * conditions_of a + 2 * c) 0 ≡ get_or s (2 * conditions_of a + 2 * c) 0
  pub stands : member m c ≡ true → free_at a c ≡ true → get_or s (2 * conditions_of a + 2 * c) 0 ≤ get_or tops c 0

pub record HighFalls (a : List ℕ) (m : List Bool) (tops s s' : List ℕ) (c : ℕ) : Type 0 where
  pub reached : member m c ≡ true
  pub free : free_at a c ≡ true
  pub over : get_or tops c 0 < get_or s (2 * conditions_of a + 2 * c) 0
  pub fallen : get_or s' (2 * conditions_of a + 2 * c) 0 ≡ get_or tops c 0

-- with an index whoever reads a literal of a condition whose high end fell is in the set
abbrev pub WokenByFall : (a : List ℕ) (indexed : Bool) (s s' : List ℕ) → (ℕ → ℕ) → List ℕ → Type 0
WokenByFall a indexed s s' code words =
    (indexed ≡ false)
    ⊎ ((c : ℕ) → c < conditions_of a → get_or s' (2 * conditions_of a + 2 * c) 0 ≢ get_or s (2 * conditions_of a + 2 * c) 0 → (h : ℕ) → lines_read (code c) (page_of a).lines h ≡ true → has words h ≡ true)

-- the next high ends of the free conditions are taken over, with their negations; whoever negates such a one waits, and whoever names it
-- plainly is looked at
pub record HighsTaken (a : List ℕ) (indexed : Bool) (m : List Bool) (tops s s' lows' look look' : List ℕ) (fell : Bool) : Type 0 where
  pub same_length : length s' ≡ length s
  pub lows : (c : ℕ) → c < conditions_of a → get_or s' (2 * c) 0 ≡ get_or s (2 * c) 0
  pub negations : (c : ℕ) → c < conditions_of a → get_or s' (2 * conditions_of a + (2 * c + 1)) 0 ≡ get_or s (2 * conditions_of a + (2 * c + 1)) 0
  pub over_high : (c : ℕ) → c < conditions_of a → get_or s' (2 * c + 1) 0 ≡ top_of a - get_or s' (2 * conditions_of a + 2 * c) 0
  pub beyond : drop (4 * conditions_of a) s' ≡ drop (4 * conditions_of a) s
  pub lows_in : WaitSet (conditions_of a) lows'
  pub look_in : WaitSet (conditions_of a) look'
  pub each : (c : ℕ) → c < conditions_of a → HighStays a m tops s s' c ⊎ HighFalls a m tops s s' c
  pub lows_woken : WokenByFall a indexed s s' (λ c. 2 * c + 1) lows'
  pub look_woken : WokenByFall a indexed s s' (λ c. 2 * c) look'
  pub look_same : indexed ≡ false → look' ≡ look
  pub none : fell ≡ false → (c : ℕ) → c < conditions_of a → get_or s' (2 * conditions_of a + 2 * c) 0 ≡ get_or s (2 * conditions_of a + 2 * c) 0
  pub one : fell ≡ true → (c : ℕ) × (c < conditions_of a) × HighFalls a m tops s s' c

-- what the negations of the lowered conditions ask: all others have their numbers already
pub record FollowReady (a s lowered lows : List ℕ) : Type 0 where
  pub long : 4 * conditions_of a ≤ length s
  pub within : (c : ℕ) → c < conditions_of a → get_or s (2 * conditions_of a + 2 * c) 0 ≤ top_of a
  pub lowered_in : WaitSet (conditions_of a) lowered
  pub lows_in : WaitSet (conditions_of a) lows
  pub others : (c : ℕ) → c < conditions_of a → has lowered c ≡ false → get_or s (2 * c + 1) 0 ≡ top_of a - get_or s (2 * conditions_of a + 2 * c) 0

-- the high ends of the first assignment
abbrev pub first_high : (a : List ℕ) (m : List Bool) → ℕ → ℕ
first_high a m c = cond (member m c) (top_of a) 0

-- the four numbers of c in the first assignment
pub record BegunAt (a : List ℕ) (m : List Bool) (s : List ℕ) (c : ℕ) : Type 0 where
  pub low : get_or s (2 * c) 0 ≡ 0
  pub over_high : get_or s (2 * c + 1) 0 ≡ top_of a - first_high a m c
  pub high : get_or s (2 * conditions_of a + 2 * c) 0 ≡ first_high a m c
  pub over_low : get_or s (2 * conditions_of a + (2 * c + 1)) 0 ≡ top_of a

-- the first assignment
pub record Begun (a : List ℕ) (m : List Bool) (s s' : List ℕ) : Type 0 where
  pub same_length : length s' ≡ length s
  pub beyond : drop (4 * conditions_of a) s' ≡ drop (4 * conditions_of a) s
  pub each : (c : ℕ) → c < conditions_of a → BegunAt a m s' c

-- what c has beside the tables at first: its high end, and top where it is free
abbrev pub first_top : (a s : List ℕ) → ℕ → ℕ
first_top a s c = cond (free_at a c) (top_of a) (get_or s (2 * conditions_of a + 2 * c) 0)

-- the high ends of what is reached
pub record TopsCopied (a : List ℕ) (m : List Bool) (s tops₀ tops : List ℕ) : Type 0 where
  pub size : length tops ≡ length tops₀
  pub long : conditions_of a ≤ length tops
  pub copied : (c : ℕ) → c < conditions_of a → member m c ≡ true → get_or tops c 0 ≡ first_top a s c
