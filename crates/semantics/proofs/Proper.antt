-- Pages within the limits of document 01 but for the count of lines, which no law of the readings asks for: what a sound area holds and an
-- accepted text says (`sound_proper`, `accepted_proper`). Assumes nothing.
use mathlib.Core.List.{List, [], ◌∷◌}
use Prim.Native.Nat.{ℕ, ◌≤◌, ◌<◌}
use lib.ListN.{length}
use Rattle.semantics.specs.Page.{Literal, condition_of, Line, fact, rule, query, default, Page, defaults}

-- every field in range: conditions below C, low ≤ high ≤ top, weight 1 to top, 1 to 8 literals
abbrev pub LiteralsBelow : ℕ → List Literal → Type 0
LiteralsBelow n [] = Unit {0}
LiteralsBelow n (l ∷ ls) = (condition_of l < n) × LiteralsBelow n ls

abbrev pub InRange : ℕ → ℕ → Line → Type 0
InRange top n (fact c l h) = (c < n) × (l ≤ h) × (h ≤ top)
InRange top n (rule c w op lits) = (c < n) × (1 ≤ w) × (w ≤ top) × (1 ≤ length lits) × (length lits ≤ 8) × LiteralsBelow n lits
InRange top n (query r c) = c < n
InRange top n (default c) = c < n

abbrev pub AllInRange : ℕ → ℕ → List Line → Type 0
AllInRange top n [] = Unit {0}
AllInRange top n (l ∷ ls) = InRange top n l × AllInRange top n ls

-- a page within the limits but for its count of lines: top 1 to 200, C 1 to 512, at most one D line for a condition
pub record Proper (page : Page) : Type 0 where
  pub top_least : 1 ≤ page.top
  pub top_most : page.top ≤ 200
  pub conditions_least : 1 ≤ page.conditions
  pub conditions_most : page.conditions ≤ 512
  pub ranged : AllInRange page.top page.conditions page.lines
  pub single : (c : ℕ) → defaults page.lines c ≤ 1
