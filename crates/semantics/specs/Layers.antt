-- Document 02, ticket 3, "Loops through an absence": chains of naming steps, the layers of a page, and what the check answers. Assumes nothing.
use Rattle.std.specs.Prelude.{◌≡◌, ◌≢◌, Bool, true, false, not, ◌&&◌, ◌||◌, List, [], ◌∷◌, ◌++◌, ℕ, ◌≤◌, ◌<◌, eqb, leb, length, drop}
use Rattle.std.proofs.Math.Option.{Option, none, some}
use Rattle.semantics.specs.Grade.{P}
use Rattle.semantics.specs.Page.{Literal, positive, negative, Line, fact, rule, query, default, Page, names}
use Rattle.semantics.specs.Table.{table}
use Rattle.semantics.specs.Area.{sound, page_of}
use Rattle.semantics.specs.Call.{Cause, cause, first_of}

-- !b is among the literals
unfoldable pub denies : List Literal → ℕ → Bool
denies [] b = false
denies (positive c ∷ ls) b = denies ls b
denies (negative c ∷ ls) b = eqb c b || denies ls b

unfoldable pub lines_negate : List Line → ℕ → ℕ → Bool
lines_negate [] a b = false
lines_negate (fact c l h ∷ ls) a b = lines_negate ls a b
lines_negate (rule c w op lits ∷ ls) a b = (eqb c a && denies lits b) || lines_negate ls a b
lines_negate (query r c ∷ ls) a b = lines_negate ls a b
lines_negate (default c ∷ ls) a b = lines_negate ls a b

-- some R line with head a has !b among its literals; then a names b too (`negates_names`)
abbrev pub negates : Page → ℕ → ℕ → Bool
negates page = lines_negate page.lines

-- A chain of naming steps from a to c; where `negated` is true, some step is through a negation. Conditions may repeat.
pub data Chain (page : Page) : (a c : ℕ) → (negated : Bool) → Type 0 where
  empty : {a : ℕ} → Chain page a a false
  name : {a b c : ℕ} {t : Bool} → names page a b ≡ true → Chain page b c t → Chain page a c t
  negate : {a b c : ℕ} {t : Bool} → negates page a b ≡ true → Chain page b c t → Chain page a c true

-- "some chain of naming steps leads from a condition back to itself through at least one negation"
abbrev pub Loops : Page → ℕ → Type 0
Loops page c = Chain page c c true

-- "the lowest such condition"
pub record LowestLoop (page : Page) (c : ℕ) : Type 0 where
  pub loops : Loops page c
  pub lowest : (b : ℕ) → b < c → ¬ Loops page b

-- "at least that of each condition its rules name, and more than that of each one they negate"
pub record Layers (page : Page) (layer : ℕ → ℕ) : Type 0 where
  pub named : (a b : ℕ) → names page a b ≡ true → layer b ≤ layer a
  pub negated : (a b : ℕ) → negates page a b ≡ true → layer b < layer a

-- "all as small as possible". Such layers exist exactly where no chain leads back: `layers_exactly`
pub record LeastLayers (page : Page) (layer : ℕ → ℕ) : Type 0 where
  pub layers : Layers page layer
  pub least : (other : ℕ → ℕ) → Layers page other → (c : ℕ) → c < page.conditions → layer c ≤ other c

-- "low equal to high in every F line, weight top in every R line and no P line", and (ticket 7) no D line: the pages of `passed_exact`
abbrev pub CrispLine : ℕ → Line → Type 0
CrispLine top (fact c l h) = l ≡ h
CrispLine top (rule c w op lits) = (w ≡ top) × (op ≢ P)
CrispLine top (query r c) = Unit {0}
CrispLine top (default c) = ⊥

abbrev pub CrispLines : ℕ → List Line → Type 0
CrispLines top [] = Unit {0}
CrispLines top (l ∷ ls) = CrispLine top l × CrispLines top ls

abbrev pub Crisp : Page → Type 0
Crisp page = CrispLines page.top page.lines

-- The check of a page area: 10 or 31; 30 with the condition; or the layers are written.
pub data LayersAnswer : Type 0 where
  refused_layers : (number : ℕ) → LayersAnswer
  loops_at : (condition : ℕ) → LayersAnswer
  layered : LayersAnswer

-- 10 page area not sound; 31 the lent slice is shorter than C
abbrev pub layers_causes : (area slice : List ℕ) → List Cause
layers_causes a s = cause (not (sound a)) 10 ∷ cause (not (leb (page_of a).conditions (length s))) 31 ∷ []

-- "writes for every condition a layer, C numbers in a lent slice"; the rest of it stays
pub record LayersWritten (page : Page) (slice slice' : List ℕ) : Type 0 where
  pub layer : ℕ → ℕ
  pub is_least : LeastLayers page layer
  pub written : slice' ≡ table page.conditions layer ++ drop page.conditions slice

-- with no cause before it: 30, or the work. A refusal leaves the slice as it is.
abbrev pub LayersAs : Option ℕ → LayersAnswer → Page → (slice slice' : List ℕ) → Type 0
LayersAs (some k) answer page s s' = (answer ≡ refused_layers k) × (s' ≡ s)
LayersAs none (refused_layers k) page s s' = ⊥
LayersAs none (loops_at c) page s s' = LowestLoop page c × (s' ≡ s)
LayersAs none layered page s s' = LayersWritten page s s'

-- There is exactly one such answer and slice: `check_exists`, `check_one`.
unfoldable pub LayersOf : LayersAnswer → (area slice slice' : List ℕ) → Type 0
LayersOf answer a s s' = LayersAs (first_of (layers_causes a s)) answer (page_of a) s s'

-- the paper's number of an answer: 0 where the layers are written
abbrev pub layers_number : LayersAnswer → ℕ
layers_number (refused_layers k) = k
layers_number (loops_at c) = 30
layers_number layered = 0
