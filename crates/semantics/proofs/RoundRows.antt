-- Worked rows: counts of rounds of pages. Assumes nothing.
use mathlib.Core.List.{List, [], ◌∷◌}
use Prim.Native.Nat.{ℕ}
use Rattle.semantics.specs.Grade.{M}
use Rattle.semantics.specs.Page.{Page, positive, negative, fact, rule}
use Rattle.semantics.proofs.Rows.{page1, page3, page4, page5, page6}
use Rattle.semantics.specs.Rounds.{IsRounds}

pub data CountRow : Type 0 where
  counts : Page → (queries : List ℕ) → (rounds : ℕ) → CountRow

abbrev pub Counts : CountRow → Type 0
Counts (counts page qs k) = IsRounds page qs k

abbrev pub AllCount : List CountRow → Type 0
AllCount [] = Unit {0}
AllCount (r ∷ rs) = Counts r × AllCount rs

-- a chain of three: 0 reads 1, 1 reads 2, 2 is a fact
unfoldable pub chain : Page
chain = record { top = 10; conditions = 3; lines = rule 0 10 M (positive 1 ∷ []) ∷ rule 1 10 M (positive 2 ∷ []) ∷ fact 2 5 5 ∷ [] }

-- a fact that says nothing
unfoldable pub open0 : Page
open0 = record { top = 10; conditions = 1; lines = fact 0 0 10 ∷ [] }

-- a loop of two that nothing supports, its negation, and the negation of that
unfoldable pub loops : Page
loops =
    record {
      top = 1;
      conditions = 4;
      lines = rule 0 1 M (positive 1 ∷ []) ∷ rule 1 1 M (positive 0 ∷ []) ∷ rule 2 1 M (negative 0 ∷ []) ∷ rule 3 1 M (negative 2 ∷ []) ∷ [];
    }

unfoldable pub count_rows : List CountRow
count_rows =
    counts page1 (0 ∷ []) 2
    ∷ counts page3 (0 ∷ []) 1
    ∷ counts page5 (0 ∷ []) 0
    ∷ counts page6 (0 ∷ []) 1
    ∷ counts page4 (0 ∷ []) 1
    ∷ counts open0 (0 ∷ []) 0
    ∷ counts chain (0 ∷ []) 3
    -- only what is reached counts
    ∷ counts chain (1 ∷ []) 2
    ∷ counts chain (2 ∷ []) 1
    -- with the support the loop is false after one round; T alone would leave it unknown
    ∷ counts loops (0 ∷ []) 1
    ∷ counts loops (2 ∷ []) 1
    ∷ counts loops (3 ∷ []) 2
    ∷ []
