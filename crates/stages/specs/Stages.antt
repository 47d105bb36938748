-- What the tables hold in a round of the closed reading: assignment k, then its floor and the high ends of its support. Assumes nothing.
use Rattle.std.specs.Prelude.{◌≡◌, ◌⊎◌, Bool, true, false, List, ℕ, suc, ◌+◌, ◌*◌, ◌-◌, ◌≤◌, ◌<◌, length, get_or, drop}
use Rattle.fixpoint.specs.Interval.{Within, Assign}
use Rattle.fixpoint.specs.KnowledgeOrder.{Alike}
use Rattle.fixpoint.specs.ChaoticIteration.{DependencyClosed}
use Rattle.fixpoint.specs.AlternatingFixpoint.{mix}
use Rattle.fixpoint.specs.WellFounded.{stage}
use Rattle.semantics.specs.Area.{page_of, top_of, conditions_of}
use Rattle.semantics.specs.Body.{T, unknown_by_default}
use Rattle.semantics.specs.Page.{names}
use Rattle.semantics.specs.Table.{member}
use Rattle.bits.specs.Sets.{Nobody}
use Rattle.bits.specs.Words.{has}
use Rattle.settle.specs.Ends.{reads}
use Rattle.settle.specs.Scratch.{held}
use Rattle.settle.specs.Waiting.{WaitSet}
use Rattle.rounds.specs.Round.{MarkedWait, LowsWait, closed_at}
use Rattle.stages.specs.Steps.{free_at, Whole}

-- assignment k
abbrev pub stage_at : List ℕ → ℕ → Assign
stage_at a k = stage (conditions_of a) (top_of a) (T (page_of a)) (unknown_by_default (page_of a)) k

-- the floor of assignment k, and the high ends of the next, which are those of the support of assignment k
abbrev pub between_at : List ℕ → ℕ → Assign
between_at a k = mix (free_at a) (stage_at a k) (stage_at a (suc k))

-- I and J have one floor: the low ends, and the high ends of the free conditions
pub record SameFloor (n : ℕ) (free reached : ℕ → Bool) (I J : Assign) : Type 0 where
  pub lows : (c : ℕ) → c < n → reached c ≡ true → (I c).low ≡ (J c).low
  pub highs : (c : ℕ) → c < n → reached c ≡ true → free c ≡ true → (I c).high ≡ (J c).high

-- both tables hold grades, each negation tells the end that is held, and a condition that is not reached has the high end 0
pub record Tables (a : List ℕ) (m : List Bool) (s : List ℕ) : Type 0 where
  pub long : 4 * conditions_of a ≤ length s
  pub marked : conditions_of a ≤ length m
  pub shut : DependencyClosed (conditions_of a) (names (page_of a)) (member m)
  pub within : (c : ℕ) → c < conditions_of a → Within (top_of a) (held (conditions_of a) s c)
  pub over_low : (c : ℕ) → c < conditions_of a → get_or s (2 * conditions_of a + (2 * c + 1)) 0 ≡ top_of a - get_or s (2 * c) 0
  pub over_high : (c : ℕ) → c < conditions_of a → get_or s (2 * c + 1) 0 ≡ top_of a - get_or s (2 * conditions_of a + 2 * c) 0
  pub apart : (c : ℕ) → c < conditions_of a → member m c ≡ false → get_or s (2 * conditions_of a + 2 * c) 0 ≡ 0

-- the high ends of the closed reading, and for a free condition that of assignment k
pub record Tops (a : List ℕ) (m : List Bool) (k : ℕ) (tops : List ℕ) : Type 0 where
  pub known : conditions_of a ≤ length tops
  pub closed : (c : ℕ) → c < conditions_of a → member m c ≡ true → free_at a c ≡ false → get_or tops c 0 ≡ (closed_at a c).high
  pub free : (c : ℕ) → c < conditions_of a → member m c ≡ true → free_at a c ≡ true → get_or tops c 0 ≡ (stage_at a k c).high

-- there was an assignment before, and whoever is not looked at negates no condition whose low end is another since, and names plainly no free
-- condition whose high end is another since
pub record Older (a : List ℕ) (m : List Bool) (k : ℕ) (look : List ℕ) : Type 0 where
  pub before : ℕ
  pub is : k ≡ suc before
  pub same : (c b : ℕ) → c < conditions_of a → b < conditions_of a → member m c ≡ true → has look c ≡ false → reads (page_of a) true c b ≡ true
      → (stage_at a before b).low ≡ (stage_at a k b).low
  pub unfallen : (c b : ℕ) → c < conditions_of a → b < conditions_of a → member m c ≡ true → has look c ≡ false → reads (page_of a) false c b ≡ true → free_at a b ≡ true
      → (stage_at a before b).high ≡ (stage_at a k b).high

-- assignment k; `look` has those whose high end may be another in its support, `lows` those whose low end may be another in the next
pub record AtStage (a : List ℕ) (m : List Bool) (indexed : Bool) (tops : List ℕ) (k : ℕ) (s look lows : List ℕ) : Type 0 where
  pub tables : Tables a m s
  pub tops_in : Tops a m k tops
  pub staged : (c : ℕ) → c < conditions_of a → member m c ≡ true → held (conditions_of a) s c ≡ stage_at a k c
  pub look_in : WaitSet (conditions_of a) look
  pub spread : MarkedWait (conditions_of a) m look ⊎ Older a m k look
  pub whole : Whole indexed (conditions_of a) m look
  pub lows_wait : LowsWait a m indexed s lows

-- the floor of assignment k, and the high ends of its support
pub record AtSupport (a : List ℕ) (m : List Bool) (indexed : Bool) (tops : List ℕ) (k : ℕ) (s lows : List ℕ) : Type 0 where
  pub tables : Tables a m s
  pub tops_in : Tops a m k tops
  pub between : (c : ℕ) → c < conditions_of a → member m c ≡ true → held (conditions_of a) s c ≡ between_at a k c
  pub lows_wait : LowsWait a m indexed s lows

-- the support of assignment k; whether a high end above that of the closed reading fell, or all stay
pub record Supported (a : List ℕ) (m : List Bool) (indexed : Bool) (tops : List ℕ) (k : ℕ) (s s' look' lows' : List ℕ) (fell : Bool) : Type 0 where
  pub same_length : length s' ≡ length s
  pub beyond : drop (4 * conditions_of a) s' ≡ drop (4 * conditions_of a) s
  pub look_in : WaitSet (conditions_of a) look'
  pub drained : Nobody look'
  pub at : AtSupport a m indexed tops k s' lows'
  pub none : fell ≡ false → (c : ℕ) → c < conditions_of a → member m c ≡ true → free_at a c ≡ false → (stage_at a (suc k) c).high ≡ (stage_at a k c).high
  pub one : fell ≡ true → (c : ℕ) × (c < conditions_of a) × (member m c ≡ true) × ((closed_at a c).high < (stage_at a k c).high)

-- the next assignment, if the floor moves
pub record Advanced (a : List ℕ) (m : List Bool) (indexed : Bool) (tops tops' : List ℕ) (k : ℕ) (s s' look' lows' : List ℕ) (moved : Bool) : Type 0 where
  pub same_length : length s' ≡ length s
  pub beyond : drop (4 * conditions_of a) s' ≡ drop (4 * conditions_of a) s
  pub size : length tops' ≡ length tops
  pub next : moved ≡ true → AtStage a m indexed tops' (suc k) s' look' lows'
  pub one : moved ≡ true → ¬ Alike (conditions_of a) (member m) (stage_at a k) (stage_at a (suc k))
  pub still : moved ≡ false → SameFloor (conditions_of a) (free_at a) (member m) (stage_at a (suc k)) (stage_at a k)
