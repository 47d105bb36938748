-- What the parser of a line hands back. Assumes nothing.
use Rattle.std.specs.Prelude.{◌≡◌, Bool, true, false, cond, ◌&&◌, List, [], ◌∷◌, map, ◌⊎◌, ℕ, suc, ◌<◌, eqb, ltb, leb, length, get_or, drop, Option, Some, None}
use Rattle.std.specs.Option.{option_or}
use Rattle.semantics.specs.Grade.{Op}
use Rattle.semantics.specs.Page.{Literal, condition_of, Reading, Line, fact, rule, query, default}
use Rattle.semantics.specs.Text.{text_lines, is_number, number_in, all_literals, literal_in, has_form, line_in}
use Rattle.fields.specs.Cursor.{InText, fields_at, lines_after}
use Rattle.lines.specs.declared.Pair.{Pair}
use Rattle.lines.specs.declared.Literals.{Literals}
use Rattle.lines.specs.declared.Line.{Line as Read}
use Rattle.lines.specs.declared.Parsed.{Parsed}
use Rattle.lines.specs.declared.Parsed.TheVariants.{Fact, Rule, Query, Default}

-- the line at a place goes on to the place `next`, where another begins
pub record Ends (s : List ℕ) (at next : ℕ) : Type 0 where
  pub lines : lines_after (drop at s) ≡ text_lines (drop next s)
  pub ahead : at < next

-- the line at a place has a form and says `line`, and the next begins at the place `next`
pub record Says (s : List ℕ) (at : ℕ) (line : Line) (next : ℕ) : Type 0 where
  pub form : has_form (fields_at (drop at s)) ≡ true
  pub is : line_in (fields_at (drop at s)) ≡ line
  pub ends : Ends s at next

-- the letters `F` and `R`, behind which two numbers stand
abbrev pub PairLetter : ℕ → Type 0
PairLetter x = (x ≡ 70) ⊎ (x ≡ 82)

-- the fields at a place are the letter there, the numbers f and g with the values v and w, and those at the place e
pub record PairThen (s : List ℕ) (at v w e : ℕ) : Type 0 where
  pub f : List ℕ
  pub g : List ℕ
  pub fields : fields_at (drop at s) ≡ (get_or s at 10 ∷ []) ∷ f ∷ g ∷ fields_at (drop e s)
  pub first : is_number f ≡ true
  pub second : is_number g ≡ true
  pub value : number_in f ≡ v
  pub value' : number_in g ≡ w
  pub lines : lines_after (drop at s) ≡ lines_after (drop e s)
  pub ahead : at < e
  pub place : InText s e

abbrev pub PairAt : List ℕ → ℕ → Option Pair → Type 0
PairAt s at (Some p) = PairThen s at p.first p.second p.next
PairAt s at None = has_form (fields_at (drop at s)) ≡ false

-- which literal is the first whose condition is n or more, of those that follow k others, from 1, if there is one
unfoldable pub far_in : ℕ → ℕ → List Literal → Option ℕ
far_in n k [] = None
far_in n k (l ∷ ls) = cond (ltb (condition_of l) n) (far_in n (suc k) ls) (Some (suc k))

-- the same with the literal of condition c at the place k, where `far` is the first of those before it
unfoldable pub far_with : Option ℕ → ℕ → ℕ → ℕ → Option ℕ
far_with far k c n = cond (ltb c n) far (option_or far (Some k))

-- the fields are 1 to 8 literals
abbrev pub are_literals : List (List ℕ) → Bool
are_literals fs = leb (length fs) 8 && all_literals fs

-- the fields from a place to the end of the line are k literals
pub record LiteralsTo (s : List ℕ) (at n k : ℕ) (far : Option ℕ) (next : ℕ) : Type 0 where
  pub form : are_literals (fields_at (drop at s)) ≡ true
  pub count : k ≡ length (fields_at (drop at s))
  pub first : far ≡ far_in n 0 (map literal_in (fields_at (drop at s)))
  pub ends : Ends s at next

abbrev pub LiteralsAt : List ℕ → ℕ → ℕ → Option Literals → Type 0
LiteralsAt s at n (Some l) = LiteralsTo s at n l.count l.far l.next
LiteralsAt s at n None = are_literals (fields_at (drop at s)) ≡ false

-- the line at a place is a rule
pub record RuleSays (s : List ℕ) (at n c w k : ℕ) (far : Option ℕ) (next : ℕ) : Type 0 where
  pub op : Op
  pub literals : List Literal
  pub says : Says s at (rule c w op literals) next
  pub count : k ≡ length literals
  pub first : far ≡ far_in n 0 literals

-- the line at a place is a query
pub record QuerySays (s : List ℕ) (at c next : ℕ) : Type 0 where
  pub reading : Reading
  pub says : Says s at (query reading c) next

-- the line at a place, of a page with n conditions, says this, and the next begins at the place `next`
abbrev pub SaysAs : List ℕ → ℕ → ℕ → Parsed → ℕ → Type 0
SaysAs s at n (Fact c l h) next = Says s at (fact c l h) next
SaysAs s at n (Rule c w k far) next = RuleSays s at n c w k far next
SaysAs s at n (Query c) next = QuerySays s at c next
SaysAs s at n (Default c) next = Says s at (default c) next

-- what is read of the line at a place; none where it has no form
abbrev pub ParsedAs : List ℕ → ℕ → ℕ → Option Read → Type 0
ParsedAs s at n (Some line) = SaysAs s at n line.says line.next
ParsedAs s at n None = has_form (fields_at (drop at s)) ≡ false

-- the kind of a rule with an op letter, and the number of a reading letter; none for another byte
unfoldable pub kind_at : ℕ → Option ℕ
kind_at b =
    cond (eqb b 77) (Some 1) (cond (eqb b 88) (Some 2) (cond (eqb b 76) (Some 3) (cond (eqb b 66) (Some 4) (cond (eqb b 80) (Some 5) None))))

unfoldable pub reading_at : ℕ → Option ℕ
reading_at b = cond (eqb b 75) (Some 0) (cond (eqb b 87) (Some 1) None)
