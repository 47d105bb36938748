-- Document 02, ticket 13, "All small pages": which they are, their order, their list, and what the call answers. Assumes nothing.
use Rattle.std.specs.Prelude.{◌≡◌, ◌⊎◌, ◌↔◌, Bool, true, false, ◌&&◌, ◌||◌, ℕ, zero, suc, ◌≤◌, ◌<◌, eqb, ltb, length, get_or, drop}
use mathlib.Core.List.{List, [], ◌∷◌, ◌++◌, map, flat_map}
use Rattle.std.proofs.Math.Option.{Option, none, some}
use Rattle.semantics.specs.Grade.{M}
use Rattle.semantics.specs.Page.{Literal, positive, negative, condition_of, Line, fact, rule, Page}
use Rattle.semantics.specs.Written.{text_of}
use Rattle.semantics.specs.Call.{Cause, cause, first_of}

-- "a fact or an M rule of weight 1 with one literal", on a page of n conditions with top 1
pub data SmallLine (n : ℕ) : Line → Type 0 where
  small_fact : {c l h : ℕ} → c < n → l ≤ h → h ≤ 1 → SmallLine n (fact c l h)
  small_rule : {c : ℕ} {l : Literal} → c < n → condition_of l < n → SmallLine n (rule c 1 M (l ∷ []))

-- "each a .."
abbrev pub SmallLines : ℕ → List Line → Type 0
SmallLines n [] = Unit {0}
SmallLines n (l ∷ ls) = SmallLine n l × SmallLines n ls

-- "They have top 1, one or two conditions, and zero to two further lines .. equal lines are allowed"
pub record SmallPage (page : Page) : Type 0 where
  pub top_is : page.top ≡ 1
  pub conditions_least : 1 ≤ page.conditions
  pub conditions_most : page.conditions ≤ 2
  pub few_lines : length page.lines ≤ 2
  pub each : SmallLines page.conditions page.lines

-- the smaller number comes first; of equal numbers, what follows decides
abbrev pub less_or : ℕ → ℕ → Bool → Bool
less_or x y later = ltb x y || (eqb x y && later)

-- "by the bytes of the text": the first byte that differs decides, and a text comes before those that it begins
unfoldable pub bytes_before : List ℕ → List ℕ → Bool
bytes_before s [] = false
bytes_before [] (y ∷ t) = true
bytes_before (x ∷ s) (y ∷ t) = less_or x y (bytes_before s t)

-- "by count of conditions, then of lines, then by the bytes of the text"
unfoldable pub earlier : Page → Page → Bool
earlier p q = less_or p.conditions q.conditions (less_or (length p.lines) (length q.lines) (bytes_before (text_of p) (text_of q)))

abbrev pub StandsIn : {A : Type 0} → A → List A → Type 0
StandsIn x [] = ⊥
StandsIn x (y ∷ ys) = (x ≡ y) ⊎ StandsIn x ys

-- each page comes before all that stand behind it
abbrev pub InOrder : List Page → Type 0
InOrder [] = Unit {0}
InOrder (p ∷ ps) = ((q : Page) → StandsIn q ps → earlier p q ≡ true) × InOrder ps

-- the list of all small pages, in their order. There is exactly one: `small_pages_lem`, `small_pages_one`. Each page stands in it once:
-- `small_once`.
pub record AllSmallPages (ps : List Page) : Type 0 where
  pub exactly : (p : Page) → StandsIn p ps ↔ SmallPage p
  pub order : InOrder ps

-- That list, written out.
-- the numbers below n, in their order
abbrev pub numbers_below : ℕ → List ℕ
numbers_below zero = []
numbers_below (suc n) = numbers_below n ++ (n ∷ [])

-- the facts on c; the rules with head c
abbrev pub facts_on : ℕ → List Line
facts_on c = fact c 0 0 ∷ fact c 0 1 ∷ fact c 1 1 ∷ []

abbrev pub rule_with : ℕ → Literal → Line
rule_with c l = rule c 1 M (l ∷ [])

abbrev pub rules_on : (conditions c : ℕ) → List Line
rules_on n c = map (rule_with c) (map negative (numbers_below n) ++ map positive (numbers_below n))

-- the lines that a small page of n conditions may have
unfoldable pub small_lines : ℕ → List Line
small_lines n = flat_map facts_on (numbers_below n) ++ flat_map (rules_on n) (numbers_below n)

-- no line, one, two
abbrev pub one_of : List Line → List (List Line)
one_of ls = map (λ l. l ∷ []) ls

abbrev pub two_of : List Line → List (List Line)
two_of ls = flat_map (λ l. map (λ m. l ∷ m ∷ []) ls) ls

abbrev pub page_with : ℕ → List Line → Page
page_with n ls = record { top = 1; conditions = n; lines = ls }

unfoldable pub small_pages_of : ℕ → List Page
small_pages_of n = map (page_with n) (([] ∷ one_of (small_lines n)) ++ two_of (small_lines n))

unfoldable pub small_pages : List Page
small_pages = small_pages_of 1 ++ small_pages_of 2

-- the page with a number, "0 to 241", and its text
abbrev pub small_page : ℕ → Page
small_page number = get_or small_pages number (page_with 1 [])

abbrev pub small_text : ℕ → List ℕ
small_text number = text_of (small_page number)

-- a refusal's number, or the text's length
pub data SmallAnswer : Type 0 where
  refused_small : (number : ℕ) → SmallAnswer
  wrote_small : (length : ℕ) → SmallAnswer

pub record SmallOutcome : Type 0 where
  pub answer : SmallAnswer
  pub buffer : List ℕ

-- "70, a number over 241, before 71; 71, a lent buffer too short for the text"
abbrev pub small_causes : (number : ℕ) → (buffer : List ℕ) → List Cause
small_causes number buffer = cause (ltb 241 number) 70 ∷ cause (ltb (length buffer) (length (small_text number))) 71 ∷ []

-- "writes that page's text at the start of a lent byte buffer, leaves the bytes after it, and returns the text's length"; a refusal leaves the
-- buffer as it is
abbrev pub small_as : Option ℕ → (text buffer : List ℕ) → SmallOutcome
small_as (some k) text buffer = record { answer = refused_small k; buffer = buffer }
small_as none text buffer = record { answer = wrote_small (length text); buffer = text ++ drop (length text) buffer }

unfoldable pub small_of : (number : ℕ) → (buffer : List ℕ) → SmallOutcome
small_of number buffer = small_as (first_of (small_causes number buffer)) (small_text number) buffer
