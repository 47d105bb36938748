-- Document 02, ticket 10: the count of rounds of the closed reading, on the reached conditions alone. Assumes nothing.
-- What an assignment holds elsewhere is asked nothing: T at a reached condition reads reached conditions only.
use Rattle.std.specs.Prelude.{◌≡◌, Bool, true, List, ℕ, suc, ◌<◌}
use Rattle.fixpoint.specs.Interval.{Interval, Within, Assign}
use Rattle.fixpoint.specs.KnowledgeOrder.{Under, Alike, unknown, join}
use Rattle.fixpoint.specs.Support.{assumption}
use Rattle.semantics.specs.Page.{Page}
use Rattle.semantics.specs.Body.{T, unknown_by_default}
use Rattle.semantics.specs.Reading.{reached}

-- J is safe over I: pairs of grades, at or under the default assumption, and at or under T at I joined with J
pub record SafeOn (n top : ℕ) (T : Assign → ℕ → Interval) (free reached : ℕ → Bool) (I J : Assign) : Type 0 where
  pub within : (c : ℕ) → c < n → reached c ≡ true → Within top (J c)
  pub assumed : (c : ℕ) → c < n → reached c ≡ true → Under (J c) (assumption top free c)
  pub borne : (c : ℕ) → c < n → reached c ≡ true → Under (J c) (T (join I J) c)

-- the support of I: the greatest safe J
pub record IsSupportOn (n top : ℕ) (T : Assign → ℕ → Interval) (free reached : ℕ → Bool) (I J : Assign) : Type 0 where
  pub safe : SafeOn n top T free reached I J
  pub greatest : (K : Assign) → SafeOn n top T free reached I K → (c : ℕ) → c < n → reached c ≡ true → Under (K c) (J c)

-- "Assignment 0 is [0;top] on every condition reached from the query list, and each next one is T at the last joined with its support."
pub record IsStages (n top : ℕ) (T : Assign → ℕ → Interval) (free reached : ℕ → Bool) (assignment : ℕ → Assign) : Type 0 where
  pub first : (c : ℕ) → c < n → reached c ≡ true → assignment 0 c ≡ unknown top
  pub support : ℕ → Assign
  pub is_support : (k : ℕ) → IsSupportOn n top T free reached (assignment k) (support k)
  pub next : (k : ℕ) → Alike n reached (assignment (suc k)) (T (join (assignment k) (support k)))

-- "The count is the number of the first assignment that the next one equals."
pub record IsRoundCount (n top : ℕ) (T : Assign → ℕ → Interval) (free reached : ℕ → Bool) (k : ℕ) : Type 0 where
  pub assignment : ℕ → Assign
  pub stages : IsStages n top T free reached assignment
  pub still : Alike n reached (assignment k) (assignment (suc k))
  pub moving : (j : ℕ) → j < k → ¬ Alike n reached (assignment j) (assignment (suc j))

-- k is the count of rounds of the page for these queries. (There is exactly one: `rounds_exist`, `rounds_one`. It is at most R × top: `rounds_most`.)
abbrev pub IsRounds : Page → List ℕ → ℕ → Type 0
IsRounds page qs = IsRoundCount page.conditions page.top (T page) (unknown_by_default page) (reached page qs)
