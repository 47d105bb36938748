-- The readings, computed: sweeps of T over lists. Assumes nothing.
use mathlib.Core.List.{List}
use Prim.Native.Nat.{ℕ, zero, suc, ◌+◌, ◌*◌}
use Rattle.fixpoint.specs.Interval.{Interval, Assign}
use Rattle.fixpoint.specs.KnowledgeOrder.{join}
use Rattle.fixpoint.specs.Support.{roof, raise}
use Rattle.semantics.specs.Body.{T, unknown_by_default}
use Rattle.semantics.specs.Page.{Page}
use Rattle.semantics.specs.Table.{table, interval_of, all_unknown}

unfoldable pub sweep : ℕ → (Assign → ℕ → Interval) → List Interval → List Interval
sweep n U ps = table n (U (interval_of ps))

unfoldable pub sweeps : ℕ → (Assign → ℕ → Interval) → ℕ → List Interval → List Interval
sweeps n U zero ps = ps
sweeps n U (suc k) ps = sweep n U (sweeps n U k ps)

unfoldable pub plain_list : Page → List Interval
plain_list page = sweeps page.conditions (T page) (page.conditions * (page.top + page.top)) (all_unknown page.conditions page.top)

-- the closed reading, computed: rounds of T at the last round joined with its support
unfoldable pub support_list : Page → List Interval → List Interval
support_list page ps =
    let n = page.conditions in
    let top = page.top in
    sweeps n (raise top (T page) (unknown_by_default page) (interval_of ps)) (n * (top + top)) (all_unknown n top)

unfoldable pub close_list : Page → List Interval → List Interval
close_list page ps = let js = support_list page ps in table page.conditions (T page (join (interval_of ps) (roof (interval_of js))))

unfoldable pub rounds : Page → ℕ → List Interval → List Interval
rounds page zero ps = ps
rounds page (suc k) ps = close_list page (rounds page k ps)

unfoldable pub closed_list : Page → List Interval
closed_list page = rounds page (page.conditions * (page.top + page.top)) (all_unknown page.conditions page.top)
