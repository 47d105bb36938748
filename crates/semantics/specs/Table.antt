-- Lists that stand for sets of conditions and for assignments, so that what they hold can be computed. Assumes nothing.
use Rattle.std.specs.Prelude.{Bool, true, false, ◌&&◌, ◌||◌, List, [], ◌∷◌, ℕ, zero, suc, eqb, get_or}
use Rattle.fixpoint.specs.Interval.{Interval, Assign}
use Rattle.fixpoint.specs.KnowledgeOrder.{certainly_false, unknown}

-- f k, f (k + 1), .. : n of them
unfoldable pub table_from : {A : Type 0} → ℕ → ℕ → (ℕ → A) → List A
table_from zero k f = []
table_from (suc n) k f = f k ∷ table_from n (suc k) f

abbrev pub table : {A : Type 0} → ℕ → (ℕ → A) → List A
table n f = table_from n 0 f

-- a list read as a set; what lies past its end is not in it
abbrev pub member : List Bool → ℕ → Bool
member m c = get_or m c false

-- a list read as an assignment; what lies past its end is [0;0]
abbrev pub interval_of : List Interval → Assign
interval_of ps c = get_or ps c certainly_false

-- [0;top] for each of n conditions
unfoldable pub all_unknown : ℕ → ℕ → List Interval
all_unknown n top = table n (λ c. unknown top)

unfoldable pub any_below : ℕ → (ℕ → Bool) → Bool
any_below zero p = false
any_below (suc n) p = any_below n p || p n

unfoldable pub all_below : ℕ → (ℕ → Bool) → Bool
all_below zero p = true
all_below (suc n) p = all_below n p && p n

-- c is an entry of the list
unfoldable pub listed : ℕ → List ℕ → Bool
listed c [] = false
listed c (q ∷ qs) = eqb q c || listed c qs
