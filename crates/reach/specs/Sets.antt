-- Sets of conditions as words or as marks, and what a scan over a page's lines does to them. Assumes nothing.
use Rattle.std.specs.Prelude.{◌≡◌, Bool, true, cond, not, ◌&&◌, ◌||◌, List, ℕ, ◌+◌, ◌<◌, eqb, ltb, length}
use Rattle.fixpoint.specs.ChaoticIteration.{DependencyClosed}
use Rattle.fixpoint.specs.Sum.{sum, count}
use Rattle.semantics.specs.Page.{Page, names}
use Rattle.semantics.specs.Reading.{closure, IsPassCount}
use Rattle.semantics.specs.Table.{member, any_below}
use Rattle.bits.specs.Words.{has}

-- c comes into a set
abbrev pub Takes : ℕ → (ℕ → Bool) → (ℕ → Bool) → Type 0
Takes c before after = (k : ℕ) → k < 512 → after k ≡ (before k || eqb k c)

-- the conditions of f come into a set
pub record Joins (f before after : ℕ → Bool) : Type 0 where
  pub is : (c : ℕ) → c < 512 → after c ≡ (before c || f c)

-- the same, and `added` of them are new
pub record Inserts (f before after : ℕ → Bool) (added : ℕ) : Type 0 where
  pub joins : Joins f before after
  pub counted : count 512 after ≡ count 512 before + added

-- the conditions of a set are below n
abbrev pub Inside : ℕ → List ℕ → Type 0
Inside n words = (c : ℕ) → c < 512 → has words c ≡ true → c < n

-- c is followed: what it names is found, and new if it was not found before; it names so many
pub record Followed (page : Page) (c : ℕ) (found new found' new' : List ℕ) (edges : ℕ) : Type 0 where
  pub found_is : (k : ℕ) → k < 512 → has found' k ≡ (has found k || names page c k)
  pub new_is : (k : ℕ) → k < 512 → has new' k ≡ (has new k || (names page c k && not (has found k)))
  pub edges_is : edges ≡ count page.conditions (names page c)

-- what the R lines of the conditions of a set name
abbrev pub named_by : Page → List ℕ → ℕ → Bool
named_by page words b = any_below page.conditions (λ a. has words a && names page a b)

-- a pass that follows the fresh conditions: what they name is found, and fresh if it was not found before
pub record Passed (page : Page) (fresh found found' fresh' : List ℕ) : Type 0 where
  pub found_is : (c : ℕ) → c < 512 → has found' c ≡ (has found c || named_by page fresh c)
  pub fresh_is : (c : ℕ) → c < 512 → has fresh' c ≡ (named_by page fresh c && not (has found c))

-- the set is the closure of the queries
pub record ClosureSet (page : Page) (qs words : List ℕ) : Type 0 where
  pub same : (c : ℕ) → c < 512 → has words c ≡ member (closure page qs) c

-- the same, found in so many passes
pub record FoundIn (page : Page) (qs words : List ℕ) (passes : ℕ) : Type 0 where
  pub set : ClosureSet page qs words
  pub counted : IsPassCount page qs passes

-- how many conditions are in the set, and how many each of them names, in all
pub record Counted (page : Page) (words : List ℕ) (reached edges : ℕ) : Type 0 where
  pub reached_is : reached ≡ count page.conditions (has words)
  pub edges_is : edges ≡ sum page.conditions (λ c. cond (has words c) (count page.conditions (names page c)) 0)

-- the marked set grows by `new` conditions that its own name, directly or not; with none new it names only itself
pub record Swept (page : Page) (before after : List Bool) (new : ℕ) : Type 0 where
  pub grows : (c : ℕ) → c < 512 → member before c ≡ true → member after c ≡ true
  pub inside : (s : ℕ → Bool) → DependencyClosed page.conditions (names page) s → ((c : ℕ) → c < 512 → member before c ≡ true → s c ≡ true) → (c : ℕ) → c < 512 → member after c ≡ true → s c ≡ true
  pub counted : count 512 (member after) ≡ count 512 (member before) + new
  pub settled : new ≡ 0 → DependencyClosed page.conditions (names page) (member after)

-- the marks of those of the set that are below n
pub record MarksBelow (n : ℕ) (words : List ℕ) (marks : List Bool) : Type 0 where
  pub size : length marks ≡ 512
  pub is : (c : ℕ) → member marks c ≡ (ltb c n && has words c)
