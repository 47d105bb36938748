-- Document 01, "The two readings". Assumes nothing.
use Rattle.std.specs.Prelude.{◌≡◌, Bool, true, false, not, ◌&&◌, ◌||◌, List, ℕ, zero, suc, ◌+◌, ◌-◌, ◌*◌, ◌≤◌, ◌<◌}
use Rattle.fixpoint.specs.Interval.{Interval, Assign}
use Rattle.fixpoint.specs.LeastFixpoint.{IsLeast}
use Rattle.fixpoint.specs.Support.{IsSupport}
use Rattle.fixpoint.specs.WellFounded.{IsClosedReading}
use Rattle.fixpoint.specs.Sum.{sum, count}
use Rattle.semantics.specs.Page.{Page, names}
use Rattle.semantics.specs.Body.{T, unknown_by_default}
use Rattle.semantics.specs.Table.{table, member, any_below, listed}

-- Plain: "the assignment least in knowledge order among those where every condition equals its T".
-- Assignments give each condition a pair of grades, low above high included.
abbrev pub IsPlain : Page → Assign → Type 0
IsPlain page = IsLeast page.conditions page.top (T page)

-- "The support of I is the safe J greatest in knowledge order." Safe: at or under all-[0;0], and at or under T at I joined with J
-- (`Safe`); a condition that is unknown by default "may only hold [0;top]" in a safe J (ticket 7)
abbrev pub IsSupportOf : Page → Assign → Assign → Type 0
IsSupportOf page = IsSupport page.conditions page.top (T page) (unknown_by_default page)

-- Closed: "the knowledge-least I equal to T at (I joined with the support of I)"
abbrev pub IsClosed : Page → Assign → Type 0
IsClosed page = IsClosedReading page.conditions page.top (T page) (unknown_by_default page)

-- a condition's answer in a reading: there is such an assignment, and every such one holds p at c
pub record Reads (Is : Assign → Type 0) (c : ℕ) (p : Interval) : Type 0 where
  pub some_one : (I : Assign) × Is I
  pub every_one : (I : Assign) → Is I → I c ≡ p

-- "A condition is reached if it is queried, or named in an R line of a reached condition."
pub data Reached (page : Page) (qs : List ℕ) : ℕ → Type 0 where
  queried : {c : ℕ} → listed c qs ≡ true → Reached page qs c
  named : {a b : ℕ} → Reached page qs a → names page a b ≡ true → Reached page qs b

-- the set of the reached conditions, computed: a pass adds every condition that those found before the pass name
unfoldable pub pass : Page → List Bool → List Bool
pass page m = table page.conditions (λ b. member m b || any_below page.conditions (λ a. member m a && names page a b))

unfoldable pub passes : Page → ℕ → List Bool → List Bool
passes page zero m = m
passes page (suc k) m = pass page (passes page k m)

-- the queried conditions, with which the passes start
abbrev pub queried_set : Page → List ℕ → List Bool
queried_set page qs = table page.conditions (λ c. listed c qs)

-- C passes are enough: `closure_is`
unfoldable pub closure : Page → List ℕ → List Bool
closure page qs = passes page page.conditions (queried_set page qs)

abbrev pub reached : Page → List ℕ → ℕ → Bool
reached page qs = member (closure page qs)

-- whether a pass adds a condition to those found before it
unfoldable pub adds : Page → List Bool → Bool
adds page m = any_below page.conditions (λ b. member (pass page m) b && not (member m b))

-- the count of passes, where "the first that adds none is the last and counted too": pass k adds none, and each pass before it adds some
pub record IsPassCount (page : Page) (qs : List ℕ) (k : ℕ) : Type 0 where
  pub some_pass : 1 ≤ k
  pub last : adds page (passes page (k - 1) (queried_set page qs)) ≡ false
  pub before : (i : ℕ) → suc i < k → adds page (passes page i (queried_set page qs)) ≡ true

-- it, computed: one pass more than those that add some (`pass_count_is`)
unfoldable pub pass_count : Page → List ℕ → ℕ
pass_count page qs = suc (count page.conditions (λ i. adds page (passes page i (queried_set page qs))))

-- R, the count of the reached conditions m
unfoldable pub count_r : Page → List Bool → ℕ
count_r page m = count page.conditions (member m)

-- "E counts ordered pairs (A, B) of reached conditions where some R line with head A names B": each pair once, A may equal B
unfoldable pub count_e : Page → List Bool → ℕ
count_e page m = sum page.conditions (λ a. count page.conditions (λ b. member m a && (member m b && names page a b)))

-- R + top × E
unfoldable pub bound : Page → List Bool → ℕ
bound page m = count_r page m + page.top * count_e page m
