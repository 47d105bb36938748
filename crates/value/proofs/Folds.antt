-- An op over the numbers of literals, in the code's own terms: the state of the loop, one turn of it, and its end. One law for all ops.
-- Assumes nothing.
use mathlib.Core.Path.{◌≡◌, sym, ◌∙◌, ap, subst}
use mathlib.Core.List.{List, [], ◌∷◌, foldl}
use Prim.Native.Nat.{ℕ, suc, ◌+◌, ◌-◌, ◌≤◌, ◌<◌, min, max}
use native.Mathlib.Numerals.{add-one}
use native.Mathlib.Omega.{arith}
use lib.ListN.{length, get_or, drop, length-take, length-drop}
use lib.Seq.{drop-cons, get_or-take, get_or-drop}
use Rattle.semantics.specs.Area.{kind, rule_kind}
use Rattle.semantics.specs.Grade.{End, Op, M, X, L, B, P, combine, divided, rounding}
use Rattle.semantics.proofs.Ops.{combine_bounded}
use Rattle.value.specs.LineEnds.{slice, numbers_of, Foldable, Folded, excess, bounded, product}

module _ (f : ℕ → ℕ → ℕ) (codes values : List ℕ) (first : ℕ) where
  -- the state after j literals
  pub record Folding (r j : ℕ) : Type 0 where
    pub within : j ≤ length codes
    pub is : foldl f first (numbers_of values codes) ≡ foldl f r (numbers_of values (drop j codes))

  pub folding_next : {r j r' : ℕ} → Folding r j → j < length codes → r' ≡ f r (get_or values (get_or codes j 0) 0) → Folding r' (j + 1)
  folding_next {r} {j} s l h = record { within = omega arith; is = s.is ∙ rw (add-one, drop-cons codes j 0 l, h) }

-- the literals from one place up to another, of which one stands i places behind the first
module _ (a : List ℕ) (from to : ℕ) (inside : to ≤ length a) where
  pub slice_length : length (slice a from to) ≡ to - from
  slice_length = simp (length-take, length-drop) (omega arith)

  module _ {i : ℕ} (l : i < to - from) where
    pub here : i < length (slice a from to)
    here = omega (arith, slice_length)

    pub code_here : get_or (slice a from to) i 0 ≡ get_or a (from + i) 0
    code_here = get_or-take (to - from) (drop from a) i 0 l ∙ get_or-drop from a i 0

    module _ {values : List ℕ} {top first : ℕ} (w : Foldable top (slice a from to) values first) where
      pub listed_here : get_or a (from + i) 0 < length values
      listed_here = rw (← code_here) (w.listed i here)

      pub grade_here : get_or values (get_or a (from + i) 0) 0 ≤ top
      grade_here = rw (← code_here) (w.grades i here)

    pub folding_here : {f : ℕ → ℕ → ℕ} {values : List ℕ} {first r r' : ℕ} → Folding f (slice a from to) values first r i → r' ≡ f r (get_or values (get_or a (from + i) 0) 0)
        → Folding f (slice a from to) values first r' (i + 1)
    folding_here {f} {values} {first} {r} s h =
        folding_next f (slice a from to) values first s here (h ∙ ap (λ (k : ℕ). f r (get_or values k 0)) (sym code_here))

-- a fold of an op ends with a grade
module _ (top : ℕ) (op : Op) (e : End) (values : List ℕ) where
  fold_bounded : (codes : List ℕ) (first : ℕ) → first ≤ top → ((j : ℕ) → j < length codes → get_or values (get_or codes j 0) 0 ≤ top)
      → foldl (combine top op e) first (numbers_of values codes) ≤ top
  fold_bounded [] first l g = l
  fold_bounded (c ∷ cs) first l g =
      fold_bounded cs (combine top op e first (get_or values c 0)) (combine_bounded top op e l (g 0 (omega arith))) (λ j h. g (suc j) (omega arith))

-- what each kind's fold gives is what the op of the kind gives
module _ (top k : ℕ) (e : End) (codes values : List ℕ) (first r : ℕ) where
  abbrev OfKind : Type 0
  OfKind = (op : Op) → kind k ≡ rule_kind op → Folded (combine top op e) codes values first r

  folded_as : (o : Op) → kind k ≡ rule_kind o → Folded (combine top o e) codes values first r → OfKind
  folded_as o h f op h' = let s : o ≡ op = cc in subst (λ (x : Op). Folded (combine top x e) codes values first r) s f

  pub folded_m : k ≡ 1 → Folded min codes values first r → OfKind
  unfolding kind combine
  folded_m h = folded_as M (rw h)

  pub folded_x : k ≡ 2 → Folded max codes values first r → OfKind
  unfolding kind combine
  folded_x h = folded_as X (rw h)

  pub folded_l : k ≡ 3 → Folded (excess top) codes values first r → OfKind
  unfolding kind combine
  folded_l h = folded_as L (rw h)

  pub folded_b : k ≡ 4 → Folded (bounded top) codes values first r → OfKind
  unfolding kind combine
  folded_b h = folded_as B (rw h)

  pub folded_p : {add : ℕ} → k ≡ 5 → add ≡ rounding e top → Folded (product add top) codes values first r → OfKind
  unfolding kind combine divided
  folded_p h a f = folded_as P (rw h) (subst (λ (x : ℕ). Folded (product x top) codes values first r) a f)

  pub folded_in : Foldable top codes values first → (op : Op) → Folded (combine top op e) codes values first r → r ≤ top
  folded_in w op h = rw h.is (fold_bounded top op e values codes first w.start w.grades)
