-- Document 01, "Bench figures", rows 7 and 8 as ticket 2 has them: the starred rows 1 to 8, and two pages of our own. One list, one claim (`bench`). Assumes nothing.
use mathlib.Core.Path.{◌≡◌}
use mathlib.Core.List.{List, [], ◌∷◌}
use mathlib.Core.Bool.{Bool, true, false}
use Prim.Native.Nat.{ℕ, ◌<◌}
use Rattle.fixpoint.specs.Interval.{Interval}
use Rattle.semantics.specs.Grade.{M, X, L, B, P}
use Rattle.semantics.specs.Page.{positive, negative, K, W, fact, rule, query, Page}
use Rattle.semantics.specs.Reading.{IsPlain, IsClosed, Reads, closure, count_r, count_e, bound}
use Rattle.semantics.specs.Worklist.{Status, rest, spent, status, start, driven}

abbrev pub interval : ℕ → ℕ → Interval
interval l h = record { low = l; high = h }

pub data Row : Type 0 where
  -- the plain, and the closed, answer of a condition
  plainly : Page → (condition low high : ℕ) → Row
  closedly : Page → (condition low high : ℕ) → Row
  -- R, E and the bound of an opening
  opens : Page → (queries : List ℕ) → (R E bound : ℕ) → Row
  -- a drive from an opening: how it ends, the count taken, who waits then, and the intervals held
  drives : Page → (queries : List ℕ) → (allowance : ℕ) → Status → (taken : ℕ) → (waiting : List Bool) → (intervals : List Interval) → Row

pub record Opens (page : Page) (m : List Bool) (r e b : ℕ) : Type 0 where
  pub reached : count_r page m ≡ r
  pub edges : count_e page m ≡ e
  pub limit : bound page m ≡ b

pub record Drives (page : Page) (m : List Bool) (k : ℕ) (s : Status) (t : ℕ) (w : List Bool) (ps : List Interval) : Type 0 where
  pub count : (driven page m k (start page m)).taken ≡ t
  pub ends : status (driven page m k (start page m)).state ≡ s
  pub waits : (driven page m k (start page m)).state.waiting ≡ w
  pub holds : (driven page m k (start page m)).state.intervals ≡ ps

abbrev pub Holds : Row → Type 0
Holds (plainly page c l h) = (c < page.conditions) × Reads (IsPlain page) c (interval l h)
Holds (closedly page c l h) = (c < page.conditions) × Reads (IsClosed page) c (interval l h)
Holds (opens page qs r e b) = Opens page (closure page qs) r e b
Holds (drives page qs k s t w ps) = Drives page (closure page qs) k s t w ps

abbrev pub AllHold : List Row → Type 0
AllHold [] = Unit {0}
AllHold (r ∷ rs) = Holds r × AllHold rs

-- rows 1 and 2: the example of the program `attach`
unfoldable pub page1 : Page
page1 = record { top = 10; conditions = 2; lines = fact 0 2 2 ∷ fact 1 3 3 ∷ rule 0 10 M (negative 1 ∷ []) ∷ rule 1 10 M (negative 0 ∷ []) ∷ query K 0 ∷ query W 1 ∷ [] }

unfoldable pub page3 : Page
page3 = record { top = 10; conditions = 3; lines = fact 0 3 3 ∷ fact 2 6 6 ∷ rule 0 10 M (positive 1 ∷ positive 2 ∷ []) ∷ rule 1 10 M (positive 1 ∷ []) ∷ [] }

unfoldable pub page4 : Page
page4 = record { top = 1; conditions = 1; lines = [] }

unfoldable pub page5 : Page
page5 = record { top = 1; conditions = 1; lines = rule 0 1 M (negative 0 ∷ []) ∷ [] }

unfoldable pub page6 : Page
page6 = record { top = 1; conditions = 1; lines = rule 0 1 M (positive 0 ∷ []) ∷ [] }

unfoldable pub page7 : Page
page7 = record { top = 10; conditions = 1; lines = rule 0 9 M (positive 0 ∷ []) ∷ [] }

unfoldable pub page8 : Page
page8 =
    record {
      top = 10;
      conditions = 6;
      lines = fact 0 7 7
          ∷ fact 1 5 5
          ∷ rule 2 10 P (positive 0 ∷ positive 1 ∷ [])
          ∷ rule 3 10 L (positive 0 ∷ positive 1 ∷ [])
          ∷ rule 4 10 B (positive 0 ∷ positive 1 ∷ [])
          ∷ rule 5 8 P (positive 0 ∷ positive 1 ∷ [])
          ∷ [];
    }

-- Ours: a fact with two ends, and three literals under P, L and X. At the low end 5 P 5 P 9 is from the left 2 P 9, which is 1; from the right it would be
-- 5 P 4, which is 2.
-- (No starred row has three literals, or an X.)
unfoldable pub page_ours : Page
page_ours =
    record {
      top = 10;
      conditions = 6;
      lines = fact 0 5 5
          ∷ fact 1 9 9
          ∷ fact 2 8 10
          ∷ rule 3 10 P (positive 0 ∷ positive 0 ∷ positive 1 ∷ [])
          ∷ rule 4 10 L (positive 1 ∷ positive 2 ∷ positive 1 ∷ [])
          ∷ rule 5 10 X (positive 0 ∷ positive 1 ∷ positive 2 ∷ [])
          ∷ [];
    }

-- Ours, for ticket 2: every op on what is no whole number, a weight on one, a loop through a negation, a repeated literal, several lines of one head, and 4
-- without lines. Exactly, with 5 and 3 chosen in the F lines, 1 is 5/2, 2 is 10/3, 3 is 5/24, 5 is 8, 6 is 25/6, 7 is 21/4, 8 is 5/2 and 9 is 10/3
-- (`exact_example`).
unfoldable pub page_exact : Page
page_exact =
    record {
      top = 10;
      conditions = 10;
      lines = fact 0 4 6
          ∷ fact 0 2 3
          ∷ rule 1 5 M (positive 0 ∷ [])
          ∷ rule 2 5 M (negative 2 ∷ [])
          ∷ query K 3
          ∷ rule 3 10 P (positive 1 ∷ positive 2 ∷ positive 1 ∷ [])
          ∷ rule 3 10 L (positive 1 ∷ positive 0 ∷ [])
          ∷ rule 5 8 B (negative 1 ∷ positive 2 ∷ [])
          ∷ rule 5 1 X (positive 4 ∷ negative 1 ∷ [])
          ∷ rule 6 10 L (negative 1 ∷ negative 2 ∷ [])
          ∷ rule 7 9 B (positive 1 ∷ positive 2 ∷ [])
          ∷ rule 8 10 M (positive 1 ∷ positive 2 ∷ negative 2 ∷ [])
          ∷ rule 9 10 X (positive 1 ∷ positive 2 ∷ [])
          ∷ [];
    }

unfoldable pub rows : List Row
rows =
    plainly page1 0 2 7
    ∷ plainly page1 1 3 8
    ∷ closedly page1 0 2 7
    ∷ closedly page1 1 3 8
    ∷ opens page1 (0 ∷ []) 2 2 22
    ∷ drives page1 (0 ∷ []) 3 spent 3 (false ∷ true ∷ []) (interval 2 7 ∷ interval 3 8 ∷ [])
    ∷ drives page1 (0 ∷ []) 4 rest 4 (false ∷ false ∷ []) (interval 2 7 ∷ interval 3 8 ∷ [])
    ∷ plainly page3 0 3 6
    ∷ plainly page3 1 0 10
    ∷ closedly page3 0 3 3
    ∷ closedly page3 1 0 0
    ∷ plainly page4 0 0 0
    ∷ opens page4 (0 ∷ []) 1 0 1
    ∷ drives page4 (0 ∷ []) 1 rest 1 (false ∷ []) (interval 0 0 ∷ [])
    ∷ plainly page5 0 0 1
    ∷ closedly page5 0 0 1
    ∷ plainly page6 0 0 1
    ∷ closedly page6 0 0 0
    ∷ plainly page7 0 0 9
    ∷ opens page7 (0 ∷ []) 1 1 11
    ∷ drives page7 (0 ∷ []) 1 spent 1 (true ∷ []) (interval 0 9 ∷ [])
    ∷ drives page7 (0 ∷ []) 2 rest 2 (false ∷ []) (interval 0 9 ∷ [])
    ∷ plainly page8 2 3 4
    ∷ plainly page8 3 2 2
    ∷ plainly page8 4 10 10
    ∷ plainly page8 5 2 4
    -- our own rows
    ∷ closedly page7 0 0 0
    ∷ closedly page8 5 2 4
    ∷ plainly page_ours 3 1 3
    ∷ plainly page_ours 2 8 10
    ∷ plainly page_ours 4 6 8
    ∷ plainly page_ours 5 9 10
    ∷ plainly page_exact 1 2 3
    ∷ plainly page_exact 2 3 4
    ∷ plainly page_exact 3 0 1
    ∷ plainly page_exact 5 8 8
    ∷ plainly page_exact 6 3 5
    ∷ plainly page_exact 7 4 7
    ∷ plainly page_exact 8 2 3
    ∷ plainly page_exact 9 3 4
    ∷ []
