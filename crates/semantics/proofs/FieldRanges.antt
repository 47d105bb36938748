-- The ranges of a line's fields: no field is bad exactly if the line is in range; and what can be told of a bad one. Assumes nothing.
use mathlib.Core.Path.{◌≡◌, refl, sym, ap}
use mathlib.Core.Bool.{Bool, true, false, ◌||◌, false≢true}
use mathlib.Core.List.{List, [], ◌∷◌}
use mathlib.Core.Option.{Option, none, some}
use Prim.Native.Nat.{ℕ, suc, ◌≤◌, ◌<◌}
use native.Mathlib.Omega.{arith}
use lib.Dec.{leb, ltb}
use lib.ListN.{length}
use borrow.Author.Tests.{leb-false, ltb-true, ltb-false, lt-leb, le-ltb}
use Rattle.semantics.specs.Call.{Cause, cause, first_of}
use Rattle.semantics.specs.Page.{Literal, condition_of, Line, fact, rule, query, default}
use Rattle.semantics.specs.ReadPage.{Fault, placed, or_else, outside, literal_ranges, line_ranges, leftmost}
use Rattle.semantics.proofs.Invariant.{NoCause, no_cause_holds}
use Rattle.semantics.proofs.Proper.{LiteralsBelow, InRange}

pub some_none : {A : Type 0} {x : A} {P : Type 0} → some x ≡ none → P
some_none e = let z : ◌≡◌ {A = ℕ} 0 1 = cc in absurd (omega arith)

-- what is not refused
pub else_none : {A : Type 0} (o p : Option A) → or_else o p ≡ none → (o ≡ none) × (p ≡ none)
else_none none p e = (refl, e)
else_none (some r) p e = some_none e

pub no_cause_placed : (k : ℕ) (causes : List Cause) → placed k (first_of causes) ≡ none → NoCause causes
no_cause_placed k causes e = no_cause_holds causes (go (first_of causes) e)
  where
    go : (o : Option ℕ) → placed k o ≡ none → o ≡ none
    go none e = refl
    go (some n) e = some_none e

-- no field is bad
abbrev pub NoFault : List (List Cause) → Type 0
NoFault [] = Unit {0}
NoFault (causes ∷ fields) = NoCause causes × NoFault fields

pub no_fault : (k : ℕ) (fields : List (List Cause)) → leftmost k fields ≡ none → NoFault fields
unfolding leftmost
no_fault k [] e = tt
no_fault k (causes ∷ fields) e =
    let w = else_none (placed k (first_of causes)) (leftmost (suc k) fields) e in
    (no_cause_placed k causes w.0, no_fault (suc k) fields w.1)

-- a number that is not outside
pub inside : (least most x : ℕ) → outside least most x ≡ false → (least ≤ x) × (x ≤ most)
inside least most x e = go (ltb x least) refl e
  where
    go : (t : Bool) → ltb x least ≡ t → (t || ltb most x) ≡ false → (least ≤ x) × (x ≤ most)
    go true p e = absurd (false≢true (sym e))
    go false p e = (ltb-false x least p, ltb-false most x e)

pub not_outside : (least most x : ℕ) → least ≤ x → x ≤ most → outside least most x ≡ false
not_outside least most x h k = rw (le-ltb x least h, le-ltb most x k)

-- The fields of a line are in range exactly if none is bad.
literals_below : (n : ℕ) (ls : List Literal) → NoFault (literal_ranges n ls) → LiteralsBelow n ls
literals_below n [] h = tt
literals_below n (l ∷ ls) h = (leb-false n (condition_of l) h.0.0, literals_below n ls h.1)

literals_pass : (n k : ℕ) (ls : List Literal) → LiteralsBelow n ls → leftmost k (literal_ranges n ls) ≡ none
unfolding leftmost
literals_pass n k [] w = refl
literals_pass n k (l ∷ ls) w = rw (lt-leb n (condition_of l) w.0) (literals_pass n (suc k) ls w.1)

-- 1 to 8 literals, which is for the form to say
abbrev pub Sized : Line → Type 0
Sized (fact c l h) = Unit {0}
Sized (rule c w op lits) = (1 ≤ length lits) × (length lits ≤ 8)
Sized (query r c) = Unit {0}
Sized (default c) = Unit {0}

pub fields_in : (top n : ℕ) (line : Line) → Sized line → NoFault (line_ranges top n line) → InRange top n line
fields_in top n (fact c l h) s w = (leb-false n c w.1.0.0, ltb-false h l w.1.1.1.0.1.0, ltb-false top h w.1.1.1.0.0)
fields_in top n (rule c v op lits) s w =
    let r = inside 1 top v w.1.1.0.0 in
    (leb-false n c w.1.0.0, r.0, r.1, s.0, s.1, literals_below n lits w.1.1.1.1)
fields_in top n (query r c) s w = leb-false n c w.1.1.0.0
fields_in top n (default c) s w = leb-false n c w.1.0.0

pub range_passes : (top n : ℕ) (line : Line) → InRange top n line → leftmost 1 (line_ranges top n line) ≡ none
unfolding leftmost
range_passes top n (fact c l h) w = rw (lt-leb n c w.0, le-ltb top l (omega (arith, w.1, w.2)), le-ltb top h w.2, le-ltb h l w.1)
range_passes top n (rule c v op lits) w = rw (lt-leb n c w.0, not_outside 1 top v w.1 w.2) (literals_pass n 5 lits w.5)
range_passes top n (query r c) w = rw (lt-leb n c w)
range_passes top n (default c) w = rw (lt-leb n c w)

-- "23, .. told only if both are at most top", and at the high field
pub crossed_within : (top n c l h : ℕ) {place : ℕ} → leftmost 1 (line_ranges top n (fact c l h)) ≡ some (record { number = 23; place = place })
    → (h < l) × (l ≤ top) × (h ≤ top) × (place ≡ 4)
unfolding leftmost
crossed_within top n c l h {place} e = go (leb n c) (ltb top l) (ltb top h) (ltb h l) refl refl refl e
  where
    told : {number k : ℕ} → ◌≡◌ {A = Option Fault} (some (record { number = number; place = k })) (some (record { number = 23; place = place })) → (number ≡ 23) × (place ≡ k)
    told e = (ap (λ (o : Option Fault). number_of o) e, sym (ap (λ (o : Option Fault). place_of o) e))
      where
        number_of : Option Fault → ℕ
        number_of none = 0
        number_of (some f) = f.number

        place_of : Option Fault → ℕ
        place_of none = 0
        place_of (some f) = f.place

    go : (t u v w : Bool) → ltb top l ≡ u → ltb top h ≡ v → ltb h l ≡ w
        → leftmost 1 ([] ∷ (cause t 4 ∷ []) ∷ (cause u 22 ∷ []) ∷ (cause v 22 ∷ cause w 23 ∷ []) ∷ []) ≡ some (record { number = 23; place = place })
        → (h < l) × (l ≤ top) × (h ≤ top) × (place ≡ 4)
    go true u v w p q r e = let z = (told e).0 in absurd (omega arith)
    go false true v w p q r e = let z = (told e).0 in absurd (omega arith)
    go false false true w p q r e = let z = (told e).0 in absurd (omega arith)
    go false false false true p q r e = (ltb-true h l r, ltb-false top l p, ltb-false top h q, (told e).1)
    go false false false false p q r e = let z : ◌≡◌ {A = Option Fault} none (some (record { number = 23; place = place })) = e in some_none (sym z)
