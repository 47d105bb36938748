-- What the soundness of an area says of the numbers from a place on, in the code's own terms: literals, kinds, one entry, the entries
-- still to come, and the head. Assumes nothing.
use mathlib.Core.Path.{◌≡◌, refl, sym, ◌∙◌, ap}
use mathlib.Core.Logic.{◌⊎◌, inl, inr, ⊎_elim}
use mathlib.Core.Bool.{Bool, true, false, ◌&&◌, and-true, and-false, false≢true}
use mathlib.Core.List.{List, [], ◌∷◌, ◌++◌}
use Prim.Native.Nat.{ℕ, zero, suc, ◌+◌, ◌*◌, ◌-◌, ◌≤◌, ◌<◌}
use native.Mathlib.Numerals.{add-one}
use native.Mathlib.Decide.{ℕ_discrete}
use native.Mathlib.Omega.{arith}
use lib.Dec.{eqb, leb, ltb}
use lib.ListN.{length, get_or, take, drop, get_or-eq_default}
use lib.Seq.{get_or-drop, drop-drop, drop-cons}
use borrow.Author.Tests.{le-leb, lt-leb, lt-ltb, le-ltb, eq-eqb, ne_eqb, leb-true, leb-false, ltb-true, ltb-false, eqb-true, eqb-false}
use Rattle.semantics.specs.Area.{Kind, fact_kind, rule_kind, query_kind, default_kind, no_kind, kind, span_as, span, line_as, line_at, every, all_under, field_tests, line_tests, lines_ok, count_of, used_of}
use Rattle.semantics.specs.Grade.{Op, M, X, L, B, P}
use Rattle.semantics.proofs.Soundness.{every_true, both_true}
use Rattle.page.specs.Lines.{step_at, EntryIn}
use Rattle.page.specs.Checks.{head_ok, rule_tests, rule_ok}
use Rattle.page.specs.Solvable.{solvable}
use Rattle.page.proofs.Solvable.{solvable_parts}

-- r numbers from x on: the first of them, and those behind it
pub part_cons : (a : List ℕ) (x r : ℕ) → x < length a → 0 < r → take r (drop x a) ≡ get_or a x 0 ∷ take (r - 1) (drop (x + 1) a)
part_cons a x zero l z = absurd (omega arith)
part_cons a x (suc r) l z = let e : suc r - 1 ≡ r = omega arith in rw (drop-cons a x 0 l, e, add-one x)

-- numbers that are all under a limit, and numbers of which one is not
pub all_in : (limit : ℕ) (xs : List ℕ) → ((j : ℕ) → j < length xs → get_or xs j 0 < limit) → all_under limit xs ≡ true
unfolding all_under
all_in limit [] h = refl
all_in limit (x ∷ xs) h = rw (lt-ltb x limit (h 0 (omega arith))) (all_in limit xs (λ j l. h (suc j) (omega arith)))

pub one_out : (limit : ℕ) (xs : List ℕ) (j : ℕ) → j < length xs → limit ≤ get_or xs j 0 → all_under limit xs ≡ false
unfolding all_under
one_out limit [] j l h = absurd (omega arith)
one_out limit (x ∷ xs) zero l h = rw (le-ltb x limit h)
one_out limit (x ∷ xs) (suc j) l h = rw (one_out limit xs j (omega arith) h, and-false (ltb x limit))

-- the kinds: 0 a fact, 1 to 5 a rule, 6 a query, 7 a D line, no other
pub rule_kind_lem : (k : ℕ) → 1 ≤ k → k ≤ 5 → (op : Op) × (kind k ≡ rule_kind op)
unfolding kind
rule_kind_lem zero l h = absurd (omega arith)
rule_kind_lem (suc zero) l h = (M, refl)
rule_kind_lem (suc (suc zero)) l h = (X, refl)
rule_kind_lem (suc (suc (suc zero))) l h = (L, refl)
rule_kind_lem (suc (suc (suc (suc zero)))) l h = (B, refl)
rule_kind_lem (suc (suc (suc (suc (suc zero))))) l h = (P, refl)
rule_kind_lem (suc (suc (suc (suc (suc (suc k)))))) l h = absurd (omega arith)

pub fact_kind_lem : (k : ℕ) → k ≡ 0 → kind k ≡ fact_kind
unfolding kind
fact_kind_lem k e = rw e

pub query_kind_lem : (k : ℕ) → k ≡ 6 → kind k ≡ query_kind
unfolding kind
query_kind_lem k e = rw e

pub default_kind_lem : (k : ℕ) → k ≡ 7 → kind k ≡ default_kind
unfolding kind
default_kind_lem k e = rw e

pub other_kind : (k : ℕ) → 7 < k → kind k ≡ no_kind
unfolding kind
other_kind k l = get_or-eq_default (fact_kind ∷ rule_kind M ∷ rule_kind X ∷ rule_kind L ∷ rule_kind B ∷ rule_kind P ∷ query_kind ∷ default_kind ∷ []) no_kind l

pub over_five : (k : ℕ) → 5 < k → (kind k ≡ query_kind) ⊎ ((kind k ≡ default_kind) ⊎ (kind k ≡ no_kind))
over_five k l =
    elim (ℕ_discrete k 6) [
      | yes e ↦ inl (query_kind_lem k e)
      | no e ↦ inr (elim (ℕ_discrete k 7) [ yes f ↦ inl (default_kind_lem k f) | no f ↦ inr (other_kind k (omega arith)) ])
    ]

-- how many numbers an entry takes, by its kind
pub span_rule : (k y : ℕ) → 1 ≤ k → k ≤ 5 → span_as (kind k) y ≡ 4 + y
span_rule k y l h = rw (rule_kind_lem k l h).1

pub span_none : (k y : ℕ) → k < 1 → span_as (kind k) y ≡ 4
span_none k y l = rw (fact_kind_lem k (omega arith))

pub span_over : (k y : ℕ) → 5 < k → span_as (kind k) y ≡ 4
span_over k y l = ⊎_elim (λ e. rw e) (⊎_elim (λ e. rw e) (λ e. rw e)) (over_five k l)

pub span_four : (t : Kind) (y : ℕ) → 4 ≤ span_as t y
span_four fact_kind y = omega arith
span_four (rule_kind op) y = omega arith
span_four query_kind y = omega arith
span_four default_kind y = omega arith
span_four no_kind y = omega arith

-- a list of tests fails where one of them fails
pub every_fails : (ts : List Bool) (i : ℕ) → get_or ts i true ≡ false → every ts ≡ false
every_fails [] i e = absurd (false≢true (sym e))
every_fails (t ∷ ts) zero e = rw e
every_fails (t ∷ ts) (suc i) e = rw (every_fails ts i e, and-false t)

-- the fields of a rule: the first four tests, and then its literals
pub and_assoc : (a b c : Bool) → (a && (b && c)) ≡ ((a && b) && c)
and_assoc true b c = refl
and_assoc false b c = refl

every_last : (ts : List Bool) (b : Bool) → every (ts ++ b ∷ []) ≡ (every ts && b)
every_last [] b = and-true b
every_last (t ∷ ts) b = ap (λ (u : Bool). t && u) (every_last ts b) ∙ and_assoc t (every ts) b

module _ (top x y : ℕ) where
  pub rule_split : (n : ℕ) (op : Op) (lits : List ℕ) → every (field_tests top n (rule_kind op) x y lits) ≡ (every (rule_tests top x y) && all_under (2 * n) lits)
  rule_split n op lits = every_last (rule_tests top x y) (all_under (2 * n) lits)

-- the fields of an entry, by its kind
module _ (top n k x y : ℕ) (lits : List ℕ) where
  pub fields_rule : 1 ≤ k → k ≤ 5 → every (field_tests top n (kind k) x y lits) ≡ (every (rule_tests top x y) && all_under (2 * n) lits)
  fields_rule l h = let q = rule_kind_lem k l h in rw q.1 (rule_split top x y n q.0 lits)

  pub fields_none : 7 < k → every (field_tests top n (kind k) x y lits) ≡ false
  fields_none l = rw (other_kind k l)

-- the line at a place
module _ (a : List ℕ) (at : ℕ) where
  first_here : get_or (drop at a) 0 0 ≡ get_or a at 0
  first_here = get_or-drop at a 0 0 ∙ ap (λ (i : ℕ). get_or a i 0) (omega arith)

  pub line_at_lem : line_at (drop at a)
      ≡ line_as (kind (get_or a (at + 1) 0)) (get_or a at 0) (get_or a (at + 2) 0) (get_or a (at + 3) 0) (take (get_or a (at + 3) 0) (drop (at + 4) a))
  line_at_lem = rw (first_here, get_or-drop at a 1 0, get_or-drop at a 2 0, get_or-drop at a 3 0, drop-drop 4 at a)

pub span_short : (k y : ℕ) → (1 ≤ k → 6 ≤ k) → span_as (kind k) y ≡ 4
span_short k y f =
    elim (ℕ_discrete k 0) [
      | yes e ↦ span_none k y (omega arith)
      | no e ↦ span_over k y (omega (arith, f (omega arith)))
    ]

-- the tests of the entry at a place
module _ (top n left : ℕ) (a : List ℕ) (at : ℕ) where
  abbrev tests : Bool
  tests = every (line_tests top n left (drop at a))

  pub span_at : span (drop at a) ≡ span_as (kind (get_or a (at + 1) 0)) (get_or a (at + 3) 0)
  unfolding span
  span_at = rw (get_or-drop at a 1 0, get_or-drop at a 3 0)

  pub entry_short : left < 4 → tests ≡ false
  entry_short l = rw (lt-leb (span (drop at a)) left (omega (arith, span_at, span_four (kind (get_or a (at + 1) 0)) (get_or a (at + 3) 0))))

  pub entry_long : left < span_as (kind (get_or a (at + 1) 0)) (get_or a (at + 3) 0) → tests ≡ false
  entry_long l = rw (lt-leb (span (drop at a)) left (omega (arith, span_at)))

  pub entry_high : n ≤ get_or a at 0 → tests ≡ false
  entry_high h = every_fails (line_tests top n left (drop at a)) 1 (le-ltb (get_or (drop at a) 0 0) n (omega (arith, first_here a at)))

  module _ (fits : span_as (kind (get_or a (at + 1) 0)) (get_or a (at + 3) 0) ≤ left) where
    pub entry_fields : get_or a at 0 < n
        → tests ≡ every (field_tests top n (kind (get_or a (at + 1) 0)) (get_or a (at + 2) 0) (get_or a (at + 3) 0) (take (get_or a (at + 3) 0) (drop (at + 4) a)))
    entry_fields h =
        rw (
          le-leb (span (drop at a)) left (omega (arith, span_at)),
          lt-ltb (get_or (drop at a) 0 0) n (omega (arith, first_here a at)),
          get_or-drop at a 1 0,
          get_or-drop at a 2 0,
          get_or-drop at a 3 0,
          drop-drop 4 at a,
        )

-- the entry at a place where the numbers end at `used`: its head, a rule whose head is in range, and any other entry
module _ (top n used : ℕ) (a : List ℕ) (at : ℕ) where
  abbrev passes : Bool
  passes = every (line_tests top n (used - at) (drop at a))

  pub head_entry : head_ok n used a at ≡ false → false ≡ passes
  head_entry e = go (leb (at + 4) used) refl
    where
      go : (t : Bool) → leb (at + 4) used ≡ t → false ≡ passes
      go true t = sym (entry_high top n (used - at) a at (ltb-false (get_or a at 0) n (rw t at e)))
      go false t = sym (entry_short top n (used - at) a at (omega (arith, leb-false (at + 4) used t)))

  pub head_in : head_ok n used a at ≡ true → (at + 4 ≤ used) × (get_or a at 0 < n)
  head_in e = let b = both_true (leb (at + 4) used) (ltb (get_or a at 0) n) e in (leb-true (at + 4) used b.0, ltb-true (get_or a at 0) n b.1)

  module _ (o : (at + 4 ≤ used) × (get_or a at 0 < n)) where
    pub rule_entry : 1 ≤ get_or a (at + 1) 0 → get_or a (at + 1) 0 ≤ 5
        → (rule_ok top used a at (get_or a (at + 3) 0) && all_under (2 * n) (take (get_or a (at + 3) 0) (drop (at + 4) a))) ≡ passes
    rule_entry l h = go (leb (at + 4 + get_or a (at + 3) 0) used) refl
      where
        z : span_as (kind (get_or a (at + 1) 0)) (get_or a (at + 3) 0) ≡ 4 + get_or a (at + 3) 0
        z = span_rule (get_or a (at + 1) 0) (get_or a (at + 3) 0) l h

        go : (t : Bool) → leb (at + 4 + get_or a (at + 3) 0) used ≡ t
            → ((t && every (rule_tests top (get_or a (at + 2) 0) (get_or a (at + 3) 0))) && all_under (2 * n) (take (get_or a (at + 3) 0) (drop (at + 4) a))) ≡ passes
        go true t =
            sym (entry_fields top n (used - at) a at (omega (arith, leb-true (at + 4 + get_or a (at + 3) 0) used t, z)) o.1 ∙ fields_rule top n (get_or a (at + 1) 0) (get_or a (at + 2) 0) (get_or a (at + 3) 0) _ l h)
        go false t = sym (entry_long top n (used - at) a at (omega (arith, leb-false (at + 4 + get_or a (at + 3) 0) used t, z)))

    pub short_entry : {r : Bool} → (1 ≤ get_or a (at + 1) 0 → 6 ≤ get_or a (at + 1) 0)
        → r ≡ every (field_tests top n (kind (get_or a (at + 1) 0)) (get_or a (at + 2) 0) (get_or a (at + 3) 0) (take (get_or a (at + 3) 0) (drop (at + 4) a)))
        → r ≡ passes
    short_entry f e = e ∙ sym (entry_fields top n (used - at) a at (omega (arith, span_short (get_or a (at + 1) 0) (get_or a (at + 3) 0) f)) o.1)

-- an entry that passes its tests lies in the area, and its condition is below C
pub entry_fits : (top n left : ℕ) (a : List ℕ) (at : ℕ) → every (line_tests top n left (drop at a)) ≡ true → span_as (kind (get_or a (at + 1) 0)) (get_or a (at + 3) 0) ≤ left
entry_fits top n left a at e = omega (arith, span_at top n left a at, leb-true (span (drop at a)) left (every_true (line_tests top n left (drop at a)) e).0)

pub entry_four : (top n left : ℕ) (a : List ℕ) (at : ℕ) → every (line_tests top n left (drop at a)) ≡ true → 4 ≤ left
entry_four top n left a at e = omega (arith, entry_fits top n left a at e, span_four (kind (get_or a (at + 1) 0)) (get_or a (at + 3) 0))

pub entry_head : (top n left : ℕ) (a : List ℕ) (at : ℕ) → every (line_tests top n left (drop at a)) ≡ true → get_or a at 0 < n
entry_head top n left a at e = omega (arith, first_here a at, ltb-true (get_or (drop at a) 0 0) n (every_true (line_tests top n left (drop at a)) e).1.0)

pub entry_in : (top n left : ℕ) (a : List ℕ) (at : ℕ) → at + left ≤ length a → every (line_tests top n left (drop at a)) ≡ true → EntryIn a at
entry_in top n left a at l e = record { four = omega (arith, entry_four top n left a at e); whole = omega (arith, entry_fits top n left a at e) }

-- m entries from a place on
module _ (top n left m : ℕ) (a : List ℕ) (at : ℕ) (some : 0 < m) where
  pub at_suc : {X : Type 0} (f : ℕ → X) → f m ≡ f (suc (m - 1))
  at_suc f = let e : m ≡ suc (m - 1) = omega arith in ap f e

  -- by its own tests, and the entries behind it
  lines_cons : lines_ok top n m left (drop at a)
      ≡ (every (line_tests top n left (drop at a)) && lines_ok top n (m - 1) (left - span (drop at a)) (drop (span (drop at a)) (drop at a)))
  unfolding lines_ok
  lines_cons = at_suc (λ (k : ℕ). lines_ok top n k left (drop at a))

  pub lines_bad : every (line_tests top n left (drop at a)) ≡ false → lines_ok top n m left (drop at a) ≡ false
  lines_bad h = lines_cons ∙ rw h

  pub lines_next : every (line_tests top n left (drop at a)) ≡ true
      → lines_ok top n m left (drop at a)
      ≡ lines_ok top n (m - 1) (left - span_as (kind (get_or a (at + 1) 0)) (get_or a (at + 3) 0)) (drop (at + span_as (kind (get_or a (at + 1) 0)) (get_or a (at + 3) 0)) a)
  lines_next h = lines_cons ∙ rw (h, drop-drop (span (drop at a)) at a, span_at top n left a at)

-- the same where k of `count` entries are passed and the last ends at `used`
pub lines_behind : (top n used count k : ℕ) (a : List ℕ) (at : ℕ) → k < count → at ≤ used → every (line_tests top n (used - at) (drop at a)) ≡ true
    → lines_ok top n (count - k) (used - at) (drop at a) ≡ lines_ok top n (count - (k + 1)) (used - (at + step_at a at)) (drop (at + step_at a at) a)
lines_behind top n used count k a at l h ok =
    let e : count - k - 1 ≡ count - (k + 1) = omega arith in
    let d : used - at - step_at a at ≡ used - (at + step_at a at) = omega arith in
    rw (e, d) at (lines_next top n (used - at) (count - k) a at (omega arith) ok)

eqb_go : (a b c d : ℕ) → (a ≡ b → c ≡ d) → (c ≡ d → a ≡ b) → (t : Bool) → eqb a b ≡ t → t ≡ eqb c d
eqb_go a b c d f g true e = sym (eq-eqb c d (f (eqb-true a b e)))
eqb_go a b c d f g false e = sym (ne_eqb c d (λ q. eqb-false a b e (g q)))

-- with none to come, the place is where they should end
pub lines_last : (top n m : ℕ) (a : List ℕ) (at used : ℕ) → at ≤ used → m ≡ 0 → lines_ok top n m (used - at) (drop at a) ≡ eqb at used
unfolding lines_ok
lines_last top n m a at used l e = rw e (eqb_go (used - at) 0 at used (λ q. omega arith) (λ q. omega arith) (eqb (used - at) 0) refl)

-- what the head of a solvable area says
module _ (a : List ℕ) where
  pub solvable_head : solvable a ≡ true → (4 ≤ length a) × (used_of a ≤ length a) × (count_of a ≤ 1536)
  solvable_head e =
      let h = (solvable_parts a e).head in
      (leb-true 4 (length a) h.0, leb-true (used_of a) (length a) h.1.1.0, leb-true (count_of a) 1536 h.1.1.1.1.1.1.1.0)
