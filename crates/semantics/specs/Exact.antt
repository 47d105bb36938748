-- Ticket 2, "The plain answers must then cover the exact figures": fractions, the exact, unrounded body value, and the covering rule. Assumes nothing.
use Rattle.std.specs.Prelude.{◌≡◌, Bool, true, false, not, cond, ◌&&◌, ◌||◌, ℕ, suc, ◌+◌, ◌*◌, ◌-◌, ◌≤◌, ◌<◌, min, max, eqb}
use mathlib.Core.List.{List, [], ◌∷◌, ◌++◌, map, foldl}
use Rattle.fixpoint.specs.Interval.{Interval, Assign}
use Rattle.semantics.specs.Grade.{Op, M, X, L, B, P}
use Rattle.semantics.specs.Page.{Literal, positive, negative, Line, fact, rule, query, default, Page}
use Rattle.semantics.specs.Body.{unknown_by_default}
use Rattle.semantics.specs.Reading.{IsPlain, Reached}
use Rattle.semantics.specs.Table.{listed}

-- "A fraction is a whole number over one above 0" (`IsFraction`)
pub record Fraction : Type 0 where
  pub numerator : ℕ
  pub denominator : ℕ

abbrev pub IsFraction : Fraction → Type 0
IsFraction x = 0 < x.denominator

-- a whole number as a fraction
abbrev pub whole : ℕ → Fraction
whole g = record { numerator = g; denominator = 1 }

-- the numerator of x, and the denominator of both, when x and y are brought to one denominator
abbrev pub scaled : Fraction → Fraction → ℕ
scaled x y = x.numerator * y.denominator

abbrev pub common : Fraction → Fraction → ℕ
common x y = x.denominator * y.denominator

-- "compared by multiplying out"
abbrev pub AtMost : Fraction → Fraction → Type 0
AtMost x y = scaled x y ≤ scaled y x

abbrev pub Equal : Fraction → Fraction → Type 0
Equal x y = scaled x y ≡ scaled y x

-- x "lies within" the interval p
pub record Covers (p : Interval) (x : Fraction) : Type 0 where
  pub from_low : AtMost (whole p.low) x
  pub to_high : AtMost x (whole p.high)

-- the op letters on fractions; a difference that would fall below 0 is 0
unfoldable pub exact_combine : ℕ → Op → Fraction → Fraction → Fraction
exact_combine top M x y = record { numerator = min (scaled x y) (scaled y x); denominator = common x y }
exact_combine top X x y = record { numerator = max (scaled x y) (scaled y x); denominator = common x y }
exact_combine top L x y = record { numerator = (scaled x y + scaled y x) - top * common x y; denominator = common x y }
exact_combine top B x y = record { numerator = min (top * common x y) (scaled x y + scaled y x); denominator = common x y }
exact_combine top P x y = record { numerator = x.numerator * y.numerator; denominator = common x y * top }

-- "multiplied by the weight and divided by top", not rounded
unfoldable pub exact_weighted : ℕ → ℕ → Fraction → Fraction
exact_weighted top w x = record { numerator = x.numerator * w; denominator = x.denominator * top }

-- top − x
unfoldable pub exact_negated : ℕ → Fraction → Fraction
exact_negated top x = record { numerator = top * x.denominator - x.numerator; denominator = x.denominator }

-- left to right; 0 of none
unfoldable pub exact_fold : (Fraction → Fraction → Fraction) → List Fraction → Fraction
exact_fold f [] = whole 0
exact_fold f (x ∷ xs) = foldl f x xs

-- a fraction for each condition
abbrev pub Figures : Type 0
Figures = ℕ → Fraction

abbrev pub exact_literal : ℕ → Figures → Literal → Fraction
exact_literal top x (positive c) = x c
exact_literal top x (negative c) = exact_negated top (x c)

abbrev pub exact_rule : ℕ → Figures → ℕ → Op → List Literal → Fraction
exact_rule top x w op lits = exact_weighted top w (exact_fold (exact_combine top op) (map (exact_literal top x) lits))

-- what a line adds to the exact body of c; g is the grade chosen in it, if it is an F line
abbrev pub exact_line : ℕ → ℕ → Figures → ℕ → Line → List Fraction
exact_line top g x c (fact d l h) = cond (eqb d c) (whole g ∷ []) []
exact_line top g x c (rule d w op lits) = cond (eqb d c) (exact_rule top x w op lits ∷ []) []
exact_line top g x c (query r d) = []
exact_line top g x c (default d) = []

-- choice k is the grade chosen in the line at place k, counted from 0
unfoldable pub exact_bodies : ℕ → (ℕ → ℕ) → Figures → ℕ → ℕ → List Line → List Fraction
exact_bodies top choice x c k [] = []
exact_bodies top choice x c k (l ∷ ls) = exact_line top (choice k) x c l ++ exact_bodies top choice x c (suc k) ls

-- "the exact, unrounded body value": the largest over the F and R lines of c, or 0 if it has none
unfoldable pub exact_body : Page → (ℕ → ℕ) → Figures → ℕ → Fraction
exact_body page choice x c = exact_fold (exact_combine page.top X) (exact_bodies page.top choice x c 0 page.lines)

-- "one grade inside each F interval"
abbrev pub ChosenIn : ℕ → Line → Type 0
ChosenIn g (fact c l h) = (l ≤ g) × (g ≤ h)
ChosenIn g (rule c w op lits) = Unit {0}
ChosenIn g (query r c) = Unit {0}
ChosenIn g (default c) = Unit {0}

abbrev pub ChosenFrom : (ℕ → ℕ) → ℕ → List Line → Type 0
ChosenFrom choice k [] = Unit {0}
ChosenFrom choice k (l ∷ ls) = ChosenIn (choice k) l × ChosenFrom choice (suc k) ls

-- c has an F or R line
unfoldable pub has_body : List Line → ℕ → Bool
has_body [] c = false
has_body (fact d l h ∷ ls) c = eqb d c || has_body ls c
has_body (rule d w op lits ∷ ls) c = eqb d c || has_body ls c
has_body (query r d ∷ ls) c = has_body ls c
has_body (default d ∷ ls) c = has_body ls c

-- "a condition unknown by default without F and R lines may take any fraction from 0 to top" (ticket 7)
abbrev pub may_take_any : Page → ℕ → Bool
may_take_any page c = unknown_by_default page c && not (has_body page.lines c)

-- "exact fractions from 0 to top for all reached conditions, each equal to the exact, unrounded body value for some choice of one grade
-- inside each F interval". No fraction lies below 0.
pub record Exact (page : Page) (choice : ℕ → ℕ) (reached : ℕ → Type 0) (x : Figures) : Type 0 where
  pub chosen : ChosenFrom choice 0 page.lines
  pub fractions : (c : ℕ) → reached c → IsFraction (x c)
  pub to_top : (c : ℕ) → reached c → AtMost (x c) (whole page.top)
  pub equal : (c : ℕ) → reached c → may_take_any page c ≡ false → Equal (x c) (exact_body page choice x c)

-- "Each such fraction lies within the plain interval of its condition." It speaks of the plain reading only: in row 6 the fraction 1 is exact, and the
-- closed answer is [0;0].
abbrev pub PlainCovers : Page → Type 0
PlainCovers page =
    (P : Assign) → IsPlain page P → (qs : List ℕ) → ((q : ℕ) → listed q qs ≡ true → q < page.conditions)
    → (choice : ℕ → ℕ) (x : Figures) → Exact page choice (Reached page qs) x → (c : ℕ) → Reached page qs c → Covers (P c) (x c)
