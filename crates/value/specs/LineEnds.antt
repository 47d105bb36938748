-- One end of a line's value over a table of that end, step by step: what each function requires, and what it hands back.
-- Assumes nothing.
use Rattle.std.specs.Prelude.{◌≡◌, ℕ, ◌+◌, ◌*◌, ◌-◌, ◌/◌, ◌≤◌, ◌<◌, min, max, length, get_or, take, drop}
use mathlib.Core.List.{List, [], ◌∷◌, map, foldl}
use Rattle.fixpoint.specs.Interval.{Interval, Assign}
use Rattle.semantics.specs.Area.{kind, rule_kind, literal_of, line_at, top_of, conditions_of}
use Rattle.semantics.specs.Body.{rule_value, line_body}
use Rattle.semantics.specs.Grade.{End, Op, rounding}
use Rattle.value.specs.Table.{end_of, EndTable}

-- the numbers of a list from one place up to another
abbrev pub slice : List ℕ → ℕ → ℕ → List ℕ
slice a from to = take (to - from) (drop from a)

-- the codes of the literals of the rule at a place, behind the first
abbrev pub behind_first : List ℕ → ℕ → List ℕ
behind_first a at = slice a (at + 5) (at + 4 + get_or a (at + 3) 0)

-- the numbers of literals
abbrev pub numbers_of : (values codes : List ℕ) → List ℕ
numbers_of values codes = map (λ code. get_or values code 0) codes

-- every literal has a number in the table
abbrev pub Listed : (codes values : List ℕ) → Type 0
Listed codes values = (j : ℕ) → j < length codes → get_or codes j 0 < length values

-- What a fold over literals requires: each has a grade in the table, and the fold begins with one.
pub record Foldable (top : ℕ) (codes values : List ℕ) (first : ℕ) : Type 0 where
  pub some : 1 ≤ top
  pub small : top ≤ 200
  pub listed : Listed codes values
  pub grades : (j : ℕ) → j < length codes → get_or values (get_or codes j 0) 0 ≤ top
  pub start : first ≤ top

-- an op may be called on two grades, and gives a grade
pub record OnGrades (top : ℕ) (pre : ℕ → ℕ → Type 0) (post : ℕ → ℕ → ℕ → Type 0) : Type 0 where
  pub callable : (p q : ℕ) → p ≤ top → q ≤ top → pre p q
  pub grade : (p q r : ℕ) → p ≤ top → q ≤ top → post p q r → r ≤ top

-- whatever an op gives is what f makes of the same two numbers
abbrev pub Computes : (f : ℕ → ℕ → ℕ) → (post : ℕ → ℕ → ℕ → Type 0) → Type 0
Computes f post = (p q r : ℕ) → post p q r → r ≡ f p q

-- r is what f makes of a first number and the numbers of literals, from left to right
pub record Folded (f : ℕ → ℕ → ℕ) (codes values : List ℕ) (first r : ℕ) : Type 0 where
  pub is : r ≡ foldl f first (numbers_of values codes)

-- what each op makes of two grades
abbrev pub excess : ℕ → ℕ → ℕ → ℕ
excess top p q = max 0 ((p + q) - top)

abbrev pub bounded : ℕ → ℕ → ℕ → ℕ
bounded top p q = min top (p + q)

-- P, with what is added before the division
abbrev pub product : ℕ → ℕ → ℕ → ℕ → ℕ
product add top p q = (p * q + add) / top

-- `add` is what one of the ends adds before a division
abbrev pub Adds : ℕ → ℕ → Type 0
Adds top add = (e : End) × (add ≡ rounding e top)

-- f holds of the end that adds it
abbrev pub EndAdding : ℕ → ℕ → (End → Type 0) → Type 0
EndAdding top add f = (e : End) → add ≡ rounding e top → f e

-- r is the end e of the value of the rule at a place, for every assignment whose table it is
pub record RuleEnd (e : End) (a values : List ℕ) (at r : ℕ) : Type 0 where
  pub grade : r ≤ top_of a
  pub is : (I : Assign) → EndTable e (top_of a) (conditions_of a) I values → (op : Op) → kind (get_or a (at + 1) 0) ≡ rule_kind op
      → r ≡ end_of e (rule_value (top_of a) I (get_or a (at + 2) 0) op (map literal_of (take (get_or a (at + 3) 0) (drop (at + 4) a))))

-- the line at a place adds one interval p to the body of its own head, and r is the end e of it
pub record LineEnd (e : End) (a values : List ℕ) (at r : ℕ) : Type 0 where
  pub grade : r ≤ top_of a
  pub is : (I : Assign) → EndTable e (top_of a) (conditions_of a) I values
      → (p : Interval) × (line_body (top_of a) I (get_or a at 0) (line_at (drop at a)) ≡ p ∷ []) × (r ≡ end_of e p)
