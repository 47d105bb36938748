-- Layers by raising: what a rule asks for, one raise, a pass over the lines, and where the passes end. Assumes nothing.
use Rattle.std.specs.Prelude.{◌≡◌, ◌≢◌, ◌⊎◌, Bool, true, false, List, ℕ, suc, ◌+◌, ◌/◌, ◌%◌, ◌≤◌, ◌<◌, max, length, get_or, drop, Option, MatchOption, IfSome, IfNone, unwrap_or}
use Rattle.semantics.specs.Area.{line_at}
use Rattle.semantics.specs.Layers.{denies, negates, LowestLoop, Layers, LeastLayers}
use Rattle.semantics.specs.Page.{Line, fact, rule, query, default, Page, names}
use Rattle.page.specs.Lines.{line_names}

-- a list of numbers read as layers
abbrev pub layer_in : List ℕ → ℕ → ℕ
layer_in layers c = get_or layers c 0

-- every layer is at most that; all are 0
abbrev pub Low : ℕ → List ℕ → Type 0
Low most layers = (c : ℕ) → layer_in layers c ≤ most

abbrev pub Zero : List ℕ → Type 0
Zero layers = (c : ℕ) → layer_in layers c ≡ 0

-- what literal i of the rule at a place asks for: the layer of its condition, and one more if it is negated
abbrev pub ask : List ℕ → ℕ → List ℕ → ℕ → ℕ
ask a at layers i = layer_in layers (get_or a (at + 4 + i) 0 / 2) + get_or a (at + 4 + i) 0 % 2

-- r is the largest that the literals of the rule ask for
pub record Asked (a : List ℕ) (at : ℕ) (layers : List ℕ) (r : ℕ) : Type 0 where
  pub most : (i : ℕ) → i < get_or a (at + 3) 0 → ask a at layers i ≤ r
  pub some : (r ≡ 0) ⊎ ((i : ℕ) × (i < get_or a (at + 3) 0) × (r ≡ ask a at layers i))

-- the head of the rule has at least what its literals ask for; r tells its layer if it rose
pub record Raised (a : List ℕ) (at : ℕ) (layers layers' : List ℕ) (r : Option ℕ) : Type 0 where
  pub size : length layers' ≡ length layers
  pub others : (c : ℕ) → c ≢ get_or a at 0 → layer_in layers' c ≡ layer_in layers c
  pub asked : (i : ℕ) → i < get_or a (at + 3) 0 → ask a at layers i ≤ layer_in layers' (get_or a at 0)
  pub told : MatchOption r (layer_in layers' (get_or a at 0) ≡ layer_in layers (get_or a at 0))
      (λ l. (i : ℕ) × (i < get_or a (at + 3) 0) × (l ≡ ask a at layers i) × (layer_in layers' (get_or a at 0) ≡ l) × (layer_in layers (get_or a at 0) < l))

-- a line is an R line with !c among its literals
abbrev pub line_negates : Line → ℕ → Bool
line_negates (fact d l h) c = false
line_negates (rule d w op lits) c = denies lits c
line_negates (query r d) c = false
line_negates (default d) c = false

-- the same of any line: its head has what the line asks for
pub record LineRaised (a : List ℕ) (at : ℕ) (layers layers' : List ℕ) (r : Option ℕ) : Type 0 where
  pub size : length layers' ≡ length layers
  pub others : (c : ℕ) → c ≢ get_or a at 0 → layer_in layers' c ≡ layer_in layers c
  pub named : (b : ℕ) → line_names (line_at (drop at a)) b ≡ true → layer_in layers b ≤ layer_in layers' (get_or a at 0)
  pub negated : (b : ℕ) → line_negates (line_at (drop at a)) b ≡ true → layer_in layers b < layer_in layers' (get_or a at 0)
  pub told : MatchOption r (layer_in layers' (get_or a at 0) ≡ layer_in layers (get_or a at 0))
      (λ l. (layer_in layers' (get_or a at 0) ≡ l) × (layer_in layers (get_or a at 0) < l)
      × ((b : ℕ) × (((line_names (line_at (drop at a)) b ≡ true) × (l ≡ layer_in layers b)) ⊎ ((line_negates (line_at (drop at a)) b ≡ true) × (l ≡ suc (layer_in layers b))))))

-- a pass over the lines: every condition has at least what its rules ask for, no layer is above what layers there are ask for, and r tells
-- the highest that was raised to
pub record PassRaised (page : Page) (layers layers' : List ℕ) (r : Option ℕ) : Type 0 where
  pub size : length layers' ≡ length layers
  pub named : (a b : ℕ) → names page a b ≡ true → layer_in layers b ≤ layer_in layers' a
  pub negated : (a b : ℕ) → negates page a b ≡ true → layer_in layers b < layer_in layers' a
  pub under : (m : ℕ → ℕ) → Layers page m → ((c : ℕ) → c < page.conditions → layer_in layers c ≤ m c) → (c : ℕ) → c < page.conditions → layer_in layers' c ≤ m c
  pub still : IfNone r ((c : ℕ) → layer_in layers' c ≡ layer_in layers c)
  pub some : IfSome r (λ l. (c : ℕ) × (c < page.conditions) × (layer_in layers c < layer_in layers' c) × (l ≤ layer_in layers' c))
  pub most : (c : ℕ) → layer_in layers' c ≤ max (layer_in layers c) (unwrap_or r 0)

-- the passes came to an end with the least layers; or a chain through a negation leads back
pub record Settled (page : Page) (layers : List ℕ) (settled : Bool) : Type 0 where
  pub size : length layers ≡ page.conditions
  pub layered : settled ≡ true → LeastLayers page (layer_in layers)
  pub looped : settled ≡ false → (c : ℕ) × LowestLoop page c
