-- A sound page area holds a proper page. Assumes nothing.
use mathlib.Core.Path.{◌≡◌, refl, ap}
use mathlib.Core.Bool.{Bool, true, false, cond, ◌&&◌, false≢true}
use mathlib.Core.List.{List, [], ◌∷◌, map}
use Prim.Native.Nat.{ℕ, zero, suc, ◌+◌, ◌*◌, ◌-◌, ◌/◌, ◌%◌, ◌≤◌, ◌<◌}
use native.Mathlib.Decide.{dec_lt}
use native.Mathlib.Omega.{arith}
use lib.Dec.{eqb, leb, ltb}
use lib.ListN.{length, get_or, drop, length-take, length-drop, length-map}
use borrow.Author.Tests.{leb-true, ltb-true, eqb-true, ne_eqb, le-leb}
use Rattle.semantics.specs.Area.{Kind, fact_kind, rule_kind, query_kind, default_kind, no_kind, kind, span_as, span, literal_of, literals_at, line_as, lines_of, page_of, every, all_under, field_tests, line_tests, head_tests, lines_ok, default_tests, defaults_ok, sound_to, sound, first_line, default_of, top_of, conditions_of, count_of, used_of}
use Rattle.semantics.specs.Page.{positive, negative, condition_of, Line, fact, rule, query, default, defaults}
use Rattle.semantics.proofs.Proper.{LiteralsBelow, InRange, AllInRange, Proper}
use Rattle.semantics.proofs.Table.{all_at}

-- all tests of a list hold
abbrev pub Every : List Bool → Type 0
Every [] = Unit {0}
Every (t ∷ ts) = (t ≡ true) × Every ts

pub every_of : (ts : List Bool) → Every ts → every ts ≡ true
every_of [] h = refl
every_of (t ∷ ts) h = rw h.0 (every_of ts h.1)

pub both_true : (a b : Bool) → (a && b) ≡ true → (a ≡ true) × (b ≡ true)
both_true true b e = (refl, e)
both_true false b e = absurd (false≢true e)

pub every_true : (ts : List Bool) → every ts ≡ true → Every ts
every_true [] e = tt
every_true (true ∷ ts) e = (refl, every_true ts e)
every_true (false ∷ ts) e = absurd (false≢true e)

-- the condition of a literal's number
pub subject_of : (k : ℕ) → condition_of (literal_of k) ≡ k / 2
subject_of k = go (eqb (k % 2) 0)
  where
    go : (t : Bool) → condition_of (cond t (positive (k / 2)) (negative (k / 2))) ≡ k / 2
    go true = refl
    go false = refl

below : (n : ℕ) (xs : List ℕ) → all_under (2 * n) xs ≡ true → LiteralsBelow n (map literal_of xs)
unfolding all_under
below n [] e = tt
below n (x ∷ xs) e =
    let h = both_true (ltb x (2 * n)) (all_under (2 * n) xs) e in
    (omega (arith, subject_of x, ltb-true x (2 * n) h.0), below n xs h.1)

sizes : (p : List ℕ) → 4 + get_or p 3 0 ≤ length p → length (map literal_of (literals_at p)) ≡ get_or p 3 0
sizes p h = simp (length-map, length-take, length-drop) (omega arith)

in_range : (top n : ℕ) (k : Kind) (p : List ℕ) → span_as k (get_or p 3 0) ≤ length p → get_or p 0 0 < n → Every (field_tests top n k (get_or p 2 0) (get_or p 3 0) (literals_at p))
    → InRange top n (line_as k (get_or p 0 0) (get_or p 2 0) (get_or p 3 0) (literals_at p))
in_range top n fact_kind p s c h = omega (arith, leb-true)
in_range top n (rule_kind op) p s c h =
    let z = sizes p s in
    (c, omega (arith, leb-true), omega (arith, leb-true), omega (arith, leb-true), omega (arith, leb-true), below n (literals_at p) h.1.1.1.1.0)
in_range top n query_kind p s c h = c
in_range top n default_kind p s c h = c
in_range top n no_kind p s c h = absurd (false≢true h.0)

all_in_range : (top n k left : ℕ) (p : List ℕ) → left ≤ length p → lines_ok top n k left p ≡ true → AllInRange top n (lines_of k p)
unfolding lines_ok lines_of span
all_in_range top n zero left p l e = tt
all_in_range top n (suc k) left p l e =
    let b = both_true (every (line_tests top n left p)) (lines_ok top n k (left - span p) (drop (span p) p)) e in
    let h = every_true (line_tests top n left p) b.0 in (
      in_range top n (kind (get_or p 1 0)) p (omega (arith, leb-true (span p) left h.0)) (ltb-true (get_or p 0 0) n h.1.0) h.1.1,
      all_in_range top n k (left - span p) (drop (span p) p) (simp length-drop (omega arith)) b.1,
    )

length_lines : (k : ℕ) (p : List ℕ) → length (lines_of k p) ≡ k
unfolding lines_of
length_lines zero p = refl
length_lines (suc k) p = ap suc (length_lines k (drop (span p) p))

-- what soundness says, test by test
pub record Sound (most : ℕ) (a : List ℕ) : Type 0 where
  pub head : Every (head_tests most a)
  pub lines : lines_ok (top_of a) (conditions_of a) (count_of a) (used_of a - first_line a) (drop (first_line a) a) ≡ true
  pub single : (c : ℕ) → c < conditions_of a → default_of a c ≤ 1
  pub told : (c : ℕ) → c < conditions_of a → default_of a c ≡ defaults (page_of a).lines c

pub parts_to : (most : ℕ) (a : List ℕ) → sound_to most a ≡ true → Sound most a
unfolding sound_to defaults_ok
parts_to most a e =
    let s = every_true (every (head_tests most a) ∷ lines_ok (top_of a) (conditions_of a) (count_of a) (used_of a - first_line a) (drop (first_line a) a) ∷ defaults_ok a ∷ []) e in
    let d : (c : ℕ) → c < conditions_of a → Every (default_tests a c) = λ c l. every_true (default_tests a c) (all_at (conditions_of a) (λ c. every (default_tests a c)) s.1.1.0 c l) in
    record {
      head = every_true (head_tests most a) s.0;
      lines = s.1.0;
      single = λ c l. leb-true (default_of a c) 1 (d c l).0;
      told = λ c l. eqb-true (default_of a c) (defaults (page_of a).lines c) (d c l).1.0;
    }

pub sound_parts : (a : List ℕ) → sound a ≡ true → Sound 1024 a
sound_parts = parts_to 1024

-- soundness with at most so many lines is soundness with any greater limit
pub sound_more : (most more : ℕ) → most ≤ more → (a : List ℕ) → sound_to most a ≡ true → sound_to more a ≡ true
unfolding sound_to
sound_more most more l a e =
    let s = every_true (every (head_tests most a) ∷ lines_ok (top_of a) (conditions_of a) (count_of a) (used_of a - first_line a) (drop (first_line a) a) ∷ defaults_ok a ∷ []) e in
    let h = every_true (head_tests most a) s.0 in
    let k : leb (count_of a) more ≡ true = le-leb (count_of a) more (omega (arith, leb-true (count_of a) most h.1.1.1.1.1.1.1.0)) in
    every_of (every (head_tests more a) ∷ lines_ok (top_of a) (conditions_of a) (count_of a) (used_of a - first_line a) (drop (first_line a) a) ∷ defaults_ok a ∷ [])
    (every_of (head_tests more a) (h.0, (h.1.0, (h.1.1.0, (h.1.1.1.0, (h.1.1.1.1.0, (h.1.1.1.1.1.0, (h.1.1.1.1.1.1.0, (k, tt)))))))), (s.1.0, (s.1.1.0, tt)))

-- so many lines
pub few_lines : (most : ℕ) (a : List ℕ) → sound_to most a ≡ true → length (page_of a).lines ≤ most
unfolding page_of
few_lines most a e = rw (length_lines (count_of a) (drop (first_line a) a)) (leb-true (count_of a) most (parts_to most a e).head.1.1.1.1.1.1.1.0)

-- no D line of a condition at or over C is in range
none_over : (top n : ℕ) (ls : List Line) → AllInRange top n ls → (c : ℕ) → n ≤ c → defaults ls c ≡ 0
unfolding defaults
none_over top n [] w c h = refl
none_over top n (fact d l u ∷ ls) w c h = none_over top n ls w.1 c h
none_over top n (rule d v op lits ∷ ls) w c h = none_over top n ls w.1 c h
none_over top n (query r d ∷ ls) w c h = none_over top n ls w.1 c h
none_over top n (default d ∷ ls) w c h = rw (ne_eqb d c (λ e. omega (arith, w.0))) (omega (arith, none_over top n ls w.1 c h))

pub proper_to : (most : ℕ) (a : List ℕ) → sound_to most a ≡ true → Proper (page_of a)
unfolding page_of
proper_to most a e =
    let s = parts_to most a e in
    let h = s.head in
    let r = all_in_range (top_of a) (conditions_of a) (count_of a) (used_of a - first_line a) (drop (first_line a) a) (simp length-drop (omega (arith, leb-true))) s.lines in
    record {
      top_least = omega (arith, leb-true);
      top_most = omega (arith, leb-true);
      conditions_least = omega (arith, leb-true);
      conditions_most = omega (arith, leb-true);
      ranged = r;
      single = λ c. elim (dec_lt c (conditions_of a)) [
        | yes l ↦ omega (arith, s.single c l, s.told c l)
        | no l ↦ omega (arith, none_over (top_of a) (conditions_of a) (lines_of (count_of a) (drop (first_line a) a)) r c (omega arith))
      ];
    }

pub sound_proper : (a : List ℕ) → sound a ≡ true → Proper (page_of a)
sound_proper = proper_to 1024
