-- Which condition the R lines of an area name, literal by literal and line by line, in the code's own terms. Assumes nothing.
use mathlib.Core.Path.{◌≡◌, refl}
use mathlib.Core.Logic.{⊎_elim}
use mathlib.Core.Bool.{Bool, true, false, cond, ◌&&◌, ◌||◌, and-false}
use mathlib.Core.List.{List, [], ◌∷◌, map}
use Rattle.std.specs.List.{list_any}
use Prim.Native.Nat.{ℕ, ◌+◌, ◌/◌, ◌%◌, ◌≤◌, ◌<◌}
use native.Mathlib.Omega.{arith}
use lib.Dec.{eqb}
use lib.ListN.{get_or, take, drop}
use Rattle.semantics.specs.Area.{Kind, fact_kind, rule_kind, query_kind, default_kind, no_kind, kind, literal_of, line_as, line_at}
use Rattle.semantics.specs.Page.{positive, negative, condition_of, Line, mentions, lines_name}
use Rattle.page.specs.Lines.{line_names}
use Rattle.page.proofs.Scan.{rule_kind_lem, fact_kind_lem, over_five, line_at_lem}

-- c is the condition of one of the literals
abbrev pub codes_name : ℕ → List ℕ → Bool
codes_name c xs = mentions (map literal_of xs) c

condition_of_lem : (x : ℕ) → condition_of (literal_of x) ≡ x / 2
condition_of_lem x = go (eqb (x % 2) 0)
  where
    go : (t : Bool) → condition_of (cond t (positive (x / 2)) (negative (x / 2))) ≡ x / 2
    go true = refl
    go false = refl

-- a search for c among literals
pub codes_any : (c : ℕ) (xs : List ℕ) → list_any (λ x. eqb (x / 2) c) xs ≡ codes_name c xs
unfolding mentions
codes_any c [] = refl
codes_any c (x ∷ xs) = rw (condition_of_lem x, codes_any c xs)

-- the line at a place names c if it is a rule whose literals do
module _ (a : List ℕ) (at c : ℕ) where
  pub line_rule : 1 ≤ get_or a (at + 1) 0 → get_or a (at + 1) 0 ≤ 5 → line_names (line_at (drop at a)) c ≡ codes_name c (take (get_or a (at + 3) 0) (drop (at + 4) a))
  line_rule l u = rw (line_at_lem a at, (rule_kind_lem (get_or a (at + 1) 0) l u).1)

  pub line_fact : get_or a (at + 1) 0 < 1 → line_names (line_at (drop at a)) c ≡ false
  line_fact h = rw (line_at_lem a at, fact_kind_lem (get_or a (at + 1) 0) (omega arith))

  pub line_over : 5 < get_or a (at + 1) 0 → line_names (line_at (drop at a)) c ≡ false
  line_over h = rw (line_at_lem a at) (⊎_elim (λ e. rw e) (⊎_elim (λ e. rw e) (λ e. rw e)) (over_five (get_or a (at + 1) 0) h))

-- lines that begin with the one at a place: it is of the head and names c, or those behind it decide
pub lines_name_lem : (a : List ℕ) (at head c : ℕ) (ls : List Line)
    → lines_name (line_at (drop at a) ∷ ls) head c ≡ ((eqb (get_or a at 0) head && line_names (line_at (drop at a)) c) || lines_name ls head c)
unfolding lines_name
lines_name_lem a at head c ls = rw (line_at_lem a at) (go (kind (get_or a (at + 1) 0)) (get_or a at 0) (get_or a (at + 2) 0) (get_or a (at + 3) 0) _)
  where
    go : (t : Kind) (d x y : ℕ) (lits : List ℕ) → lines_name (line_as t d x y lits ∷ ls) head c ≡ ((eqb d head && line_names (line_as t d x y lits) c) || lines_name ls head c)
    go fact_kind d x y lits = rw (and-false (eqb d head))
    go (rule_kind op) d x y lits = refl
    go query_kind d x y lits = rw (and-false (eqb d head))
    go default_kind d x y lits = rw (and-false (eqb d head))
    go no_kind d x y lits = rw (and-false (eqb d head))
