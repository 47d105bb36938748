-- The tests of a page area in the order of the code: the first numbers of an entry, those of a rule but for its literals, and the D numbers. Assumes nothing.
use Rattle.std.specs.Prelude.{◌≡◌, ◌≢◌, ◌⊎◌, Bool, true, false, ◌&&◌, List, [], ◌∷◌, ℕ, ◌+◌, ◌-◌, ◌≤◌, ◌<◌, eqb, ltb, leb, length, get_or, drop}
use Rattle.fixpoint.specs.Sum.{bit}
use Rattle.semantics.specs.Area.{every, lines_ok, first_line, default_of, page_of, top_of, conditions_of, count_of, used_of}
use Rattle.semantics.specs.Page.{defaults}
use Rattle.bits.specs.Words.{has, Inserted}

-- the four numbers of the entry at a place end at `used` or before, and its condition is below C, which is n
abbrev pub head_ok : ℕ → ℕ → List ℕ → ℕ → Bool
head_ok n used a at = leb (at + 4) used && ltb (get_or a at 0) n

-- the fields of a rule but for its literals: weight x 1 to top, 1 to 8 literals
abbrev pub rule_tests : ℕ → ℕ → ℕ → List Bool
rule_tests top x y = leb 1 x ∷ leb x top ∷ leb 1 y ∷ leb y 8 ∷ []

-- the rule at a place, with y literals, ends at `used` or before, with those fields in range
abbrev pub rule_ok : ℕ → ℕ → List ℕ → ℕ → ℕ → Bool
rule_ok top used a at y = leb (at + 4 + y) used && every (rule_tests top (get_or a (at + 2) 0) y)

-- what the head says of the lines and the D numbers lies in the area
pub record Headed (a : List ℕ) : Type 0 where
  pub few : conditions_of a ≤ 512
  pub begins : first_line a ≤ used_of a
  pub inside : used_of a ≤ length a

-- the numbers from where the lines begin up to the used length are exactly the entries of the lines
abbrev pub lines_pass : List ℕ → Bool
lines_pass a = lines_ok (top_of a) (conditions_of a) (count_of a) (used_of a - first_line a) (drop (first_line a) a)

-- the set has the conditions of the D lines, each of which has one
pub record Collected (a seen : List ℕ) : Type 0 where
  pub all : (c : ℕ) → c < 512 → defaults (page_of a).lines c ≡ bit (has seen c)

-- some condition has two D lines
pub record Twice (a : List ℕ) : Type 0 where
  pub condition : ℕ
  pub in_page : condition < conditions_of a
  pub two : 2 ≤ defaults (page_of a).lines condition

-- a scan of the lines: they pass and the set has the conditions of the D lines, or they do not or some condition has two
pub record LinesChecked (a seen : List ℕ) (passed : Bool) : Type 0 where
  pub collected : passed ≡ true → (lines_pass a ≡ true) × Collected a seen
  pub refused : passed ≡ false → (lines_pass a ≡ false) ⊎ Twice a

-- the entry at a place is no D line, or the first of its condition, which is put into the set, or another one
pub record CollectedAt (a : List ℕ) (at : ℕ) (seen seen' : List ℕ) (first : Bool) : Type 0 where
  pub past : get_or a (at + 1) 0 ≢ 7 → (first ≡ true) × (seen' ≡ seen)
  pub taken : get_or a (at + 1) 0 ≡ 7 → first ≡ true → (has seen (get_or a at 0) ≡ false) × Inserted (get_or a at 0) seen seen'
  pub again : first ≡ false → (get_or a (at + 1) 0 ≡ 7) × (has seen (get_or a at 0) ≡ true) × ((c : ℕ) → c < 512 → has seen' c ≡ has seen c)

-- the D number of c tells whether c is in the set
abbrev pub number_tells : (a seen : List ℕ) → ℕ → Bool
number_tells a seen c = eqb (default_of a c) (bit (has seen c))
