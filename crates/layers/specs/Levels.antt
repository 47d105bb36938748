-- The search in depth for loops through a negation. Every condition has a level: 0 is not met, 513 is done, and 1 and on are the parts of the
-- path that the search is on. A chain leads from every condition of a part to every one of the same part and of those above it. Assumes nothing.
use Rattle.std.specs.Prelude.{◌≡◌, ◌≢◌, ◌⊎◌, Bool, true, false, not, ◌||◌, List, ℕ, ◌+◌, ◌/◌, ◌%◌, ◌≤◌, ◌<◌, min, eqb, length, get_or, set, drop, Option, None, Some, MatchOption, IfSome, IsSomeAnd, Result, MatchResult}
use Rattle.fixpoint.specs.Sum.{count}
use Rattle.semantics.specs.Area.{line_at}
use Rattle.semantics.specs.Layers.{negates, Chain, Loops, LowestLoop}
use Rattle.semantics.specs.Page.{Page, names}
use Rattle.page.specs.Lines.{line_names}
use Rattle.layers.specs.Raising.{line_negates}

abbrev pub level_in : List ℕ → ℕ → ℕ
level_in levels c = get_or levels c 0

-- of the part at a level, or done
abbrev pub inside : ℕ → ℕ → Bool
inside level l = eqb l level || eqb l 513

-- What a look at the part at a level tells: whether the part negates itself, or else a condition outside that it names. First for the literals of the
-- rule at a place: all are of conditions inside, and `negated` tells whether one of the part is negated
pub record RuleInside (a : List ℕ) (at : ℕ) (levels : List ℕ) (level : ℕ) (negated : Bool) : Type 0 where
  pub within : (i : ℕ) → i < get_or a (at + 3) 0 → inside level (level_in levels (get_or a (at + 4 + i) 0 / 2)) ≡ true
  pub clear : negated ≡ false → (i : ℕ) → i < get_or a (at + 3) 0 → get_or a (at + 4 + i) 0 % 2 ≡ 1 → level_in levels (get_or a (at + 4 + i) 0 / 2) ≢ level
  pub denied : negated ≡ true → (i : ℕ) × (i < get_or a (at + 3) 0) × (get_or a (at + 4 + i) 0 % 2 ≡ 1) × (level_in levels (get_or a (at + 4 + i) 0 / 2) ≡ level)

-- one is of r, which is outside
abbrev pub RuleLeaves : List ℕ → ℕ → List ℕ → ℕ → ℕ → Type 0
RuleLeaves a at levels level r = (i : ℕ) × (i < get_or a (at + 3) 0) × (get_or a (at + 4 + i) 0 / 2 ≡ r) × (inside level (level_in levels r) ≡ false)

abbrev pub RuleLooked : List ℕ → ℕ → List ℕ → ℕ → Result Bool ℕ → Type 0
RuleLooked a at levels level r = MatchResult r (RuleInside a at levels level) (RuleLeaves a at levels level)

-- for the line at a place, whose head may be of the part
pub record LineInside (a : List ℕ) (at : ℕ) (levels : List ℕ) (level : ℕ) (negated : Bool) : Type 0 where
  pub within : level_in levels (get_or a at 0) ≡ level → (b : ℕ) → line_names (line_at (drop at a)) b ≡ true → inside level (level_in levels b) ≡ true
  pub clear : negated ≡ false → level_in levels (get_or a at 0) ≡ level → (b : ℕ) → line_negates (line_at (drop at a)) b ≡ true → level_in levels b ≢ level
  pub denied : negated ≡ true → (level_in levels (get_or a at 0) ≡ level) × ((b : ℕ) × (line_negates (line_at (drop at a)) b ≡ true) × (level_in levels b ≡ level))

abbrev pub LineLeaves : List ℕ → ℕ → List ℕ → ℕ → ℕ → Type 0
LineLeaves a at levels level r = (level_in levels (get_or a at 0) ≡ level) × (line_names (line_at (drop at a)) r ≡ true) × (inside level (level_in levels r) ≡ false)

abbrev pub LineLooked : List ℕ → ℕ → List ℕ → ℕ → Result Bool ℕ → Type 0
LineLooked a at levels level r = MatchResult r (LineInside a at levels level) (LineLeaves a at levels level)

-- and for a page
pub record PartInside (page : Page) (levels : List ℕ) (level : ℕ) (negated : Bool) : Type 0 where
  pub within : (u b : ℕ) → level_in levels u ≡ level → names page u b ≡ true → inside level (level_in levels b) ≡ true
  pub clear : negated ≡ false → (u b : ℕ) → level_in levels u ≡ level → negates page u b ≡ true → level_in levels b ≢ level
  pub denied : negated ≡ true → (u v : ℕ) × (level_in levels u ≡ level) × (negates page u v ≡ true) × (level_in levels v ≡ level)

abbrev pub PartLeaves : Page → List ℕ → ℕ → ℕ → Type 0
PartLeaves page levels level r = (u : ℕ) × (level_in levels u ≡ level) × (names page u r ≡ true) × (inside level (level_in levels r) ≡ false)

abbrev pub PartLooked : Page → List ℕ → ℕ → Result Bool ℕ → Type 0
PartLooked page levels level r = MatchResult r (PartInside page levels level) (PartLeaves page levels level)

-- the levels of low to high become `to`
pub record Relabelled (low high to : ℕ) (levels levels' : List ℕ) : Type 0 where
  pub size : length levels' ≡ length levels
  pub changed : (c : ℕ) → c < length levels → low ≤ level_in levels c → level_in levels c ≤ high → level_in levels' c ≡ to
  pub kept : (c : ℕ) → (level_in levels c < low) ⊎ (high < level_in levels c) → level_in levels' c ≡ level_in levels c

-- the lowest condition of the part at a level is told, or nothing if the part has none
abbrev pub LowestAt : List ℕ → ℕ → Option ℕ → Type 0
LowestAt levels level None = (c : ℕ) → c < length levels → level_in levels c ≢ level
LowestAt levels level (Some r) = (r < length levels) × ((c : ℕ) → c < r → level_in levels c ≢ level) × (level_in levels r ≡ level)

-- a condition is told that is c or lower
abbrev pub UpTo : ℕ → Option ℕ → Type 0
UpTo c r = IsSomeAnd r (λ d. d ≤ c)

-- the lower of what two tell
abbrev pub lower : Option ℕ → Option ℕ → Option ℕ
lower None other = other
lower (Some c) None = Some c
lower (Some c) (Some d) = Some (min c d)

-- c becomes the next part if it is not met; else the parts from that of c on become one
pub record Entered (level c : ℕ) (levels levels' : List ℕ) (r : ℕ) : Type 0 where
  pub fresh : level_in levels c ≡ 0 → (r ≡ level + 1) × (levels' ≡ set levels c (level + 1))
  pub earlier : level_in levels c ≢ 0 → (r ≡ level_in levels c) × Relabelled (level_in levels c) level (level_in levels c) levels levels'

-- the part is done; r tells the lowest of what `lowest` tells and, if the part negates itself, of the part
pub record Finished (level : ℕ) (negated : Bool) (lowest : Option ℕ) (levels levels' : List ℕ) (r : Option ℕ) : Type 0 where
  pub relabelled : Relabelled level level 513 levels levels'
  pub below : (c : ℕ) → UpTo c lowest → UpTo c r
  pub plain : negated ≡ false → r ≡ lowest
  pub least : negated ≡ true → (c : ℕ) → c < length levels → level_in levels c ≡ level → UpTo c r
  pub from : (r ≡ lowest) ⊎ ((negated ≡ true) × IsSomeAnd r (λ c. (c < length levels) × (level_in levels c ≡ level)))

-- some chain leads from a to b
abbrev pub Way : Page → ℕ → ℕ → Type 0
Way page a b = (t : Bool) × Chain page a b t

-- a condition is met
abbrev pub met : List ℕ → ℕ → Bool
met levels c = not (eqb (level_in levels c) 0)

-- The search is on a path of `level` parts; `lowest` tells the lowest condition that is done and on a loop through a negation.
pub record Open (page : Page) (levels : List ℕ) (level : ℕ) (lowest : Option ℕ) : Type 0 where
  pub size : length levels ≡ page.conditions
  pub within : (c : ℕ) → (level_in levels c ≤ level) ⊎ (level_in levels c ≡ 513)
  pub ways : (a b : ℕ) → 1 ≤ level_in levels a → level_in levels a ≤ level_in levels b → level_in levels b ≤ level → Way page a b
  pub closed : (a b : ℕ) → level_in levels a ≡ 513 → names page a b ≡ true → level_in levels b ≡ 513
  pub decided : (c : ℕ) → level_in levels c ≡ 513 → Loops page c → UpTo c lowest
  pub loops : IfSome lowest (Loops page)
  pub room : level ≤ count page.conditions (met levels)

-- the root and what was met is done
pub record Explored (page : Page) (root : ℕ) (levels levels' : List ℕ) (lowest : Option ℕ) : Type 0 where
  pub state : Open page levels' 0 lowest
  pub root_met : 1 ≤ level_in levels' root
  pub stays_met : (c : ℕ) → 1 ≤ level_in levels c → 1 ≤ level_in levels' c

-- the head of the line at a place is not met, if the line is a rule
pub record HeadOpened (a : List ℕ) (at : ℕ) (levels levels' : List ℕ) : Type 0 where
  pub size : length levels' ≡ length levels
  pub others : (c : ℕ) → c ≢ get_or a at 0 → level_in levels' c ≡ level_in levels c
  pub head : (level_in levels' (get_or a at 0) ≡ 0) ⊎ (level_in levels' (get_or a at 0) ≡ level_in levels (get_or a at 0))
  pub named : (b : ℕ) → line_names (line_at (drop at a)) b ≡ true → level_in levels' (get_or a at 0) ≡ 0

-- a condition that names another is not met; every other is not met or done
pub record Begun (page : Page) (levels : List ℕ) : Type 0 where
  pub size : length levels ≡ page.conditions
  pub either : (c : ℕ) → (level_in levels c ≡ 0) ⊎ (level_in levels c ≡ 513)
  pub named : (c b : ℕ) → names page c b ≡ true → level_in levels c ≡ 0

-- the lowest condition on a loop through a negation is told, or nothing if there is none
pub record LoopFound (page : Page) (levels : List ℕ) (r : Option ℕ) : Type 0 where
  pub size : length levels ≡ page.conditions
  pub lowest : MatchOption r ((c : ℕ) → ¬ Loops page c) (LowestLoop page)
