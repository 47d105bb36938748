-- The covering rule of ticket 2 (`plain_covers`, `area_covers`): the plain reading covers the exact figures. Assumes nothing.
use mathlib.Core.Path.{◌≡◌, refl, sym, ap, subst}
use mathlib.Core.Bool.{Bool, true, false, not, cond, ◌&&◌, ◌||◌, false≢true}
use mathlib.Core.List.{List, [], ◌∷◌, ◌++◌, map, foldl, Forall₂}
use Prim.Native.Nat.{ℕ, zero, suc, ◌+◌, ◌*◌, ◌≤◌, ◌<◌}
use native.Mathlib.Omega.{arith}
use lib.Dec.{eqb}
use lib.ListN.{length}
use Rattle.fixpoint.proofs.Cond.{by_bool}
use borrow.Author.Tests.{eq-eqb}
use Rattle.fixpoint.specs.Interval.{Interval, Assign}
use Rattle.fixpoint.specs.KnowledgeOrder.{bottom, unknown, certainly_false}
use Rattle.fixpoint.specs.LeastFixpoint.{iter, lfp}
use Rattle.semantics.specs.Area.{sound, page_of}
use Rattle.semantics.specs.Body.{literal_value, rule_value, only_if, bodies, unknown_by_default, bodyless, largest_of, T}
use Rattle.semantics.specs.Exact.{Fraction, IsFraction, whole, Covers, exact_combine, exact_fold, Figures, exact_literal, exact_rule, exact_bodies, exact_body, ChosenFrom, has_body, may_take_any, Exact, PlainCovers}
use Rattle.semantics.specs.Grade.{Op, X, combine, endwise, fold_from, fold_all, largest}
use Rattle.semantics.specs.Page.{Literal, positive, negative, condition_of, mentions, Line, fact, rule, query, default, lines_name, Page, names}
use Rattle.semantics.specs.Reading.{IsPlain, named}
use Rattle.semantics.proofs.Closure.{reached_real}
use Rattle.semantics.proofs.Fractions.{covers_equal, Covered, whole_covered, op_covered, largest_covered, negated_covered, weighted_covered}
use Rattle.semantics.proofs.Readings.{names_inside, plain_is, plain_one}
use Rattle.semantics.proofs.Proper.{Proper}
use Rattle.semantics.proofs.Relation.{left, right}
use Rattle.semantics.proofs.Soundness.{sound_proper}

fold_covered : (f : Interval → Interval → Interval) (g : Fraction → Fraction → Fraction)
    → ((p q : Interval) (x y : Fraction) → Covered p x → Covered q y → Covered (f p q) (g x y))
    → (p : Interval) (x : Fraction) → Covered p x → {ps : List Interval} {xs : List Fraction} → Forall₂ Covered ps xs → Covered (fold_from f p ps) (foldl g x xs)
unfolding fold_from
fold_covered f g k p x h Forall₂.nil = h
fold_covered f g k p x h (Forall₂.cons {a = q} {b = y} r rs) = fold_covered f g k (f p q) (g x y) (k p q x y h r) rs

-- the induction over a page: where the figures that c looks at are covered, its exact body value is covered by T
module _ (top : ℕ) (pos : 1 ≤ top) (choice : ℕ → ℕ) (I : Assign) (x : Figures) where
  literal_covered : (l : Literal) → Covered (I (condition_of l)) (x (condition_of l)) → Covered (literal_value top I l) (exact_literal top x l)
  literal_covered (positive c) h = h
  literal_covered (negative c) h = negated_covered top pos (I c) (x c) h

  literals_covered : (ls : List Literal) → ((b : ℕ) → mentions ls b ≡ true → Covered (I b) (x b)) → Forall₂ Covered (map (literal_value top I) ls) (map (exact_literal top x) ls)
  unfolding mentions
  literals_covered [] h = Forall₂.nil
  literals_covered (l ∷ ls) h =
      Forall₂.cons (literal_covered l (h (condition_of l) (left _ _ (eq-eqb (condition_of l) (condition_of l) refl))))
      (literals_covered ls (λ b e. h b (right (eqb (condition_of l) b) (mentions ls b) e)))

  folded_covered : (op : Op) {ps : List Interval} {xs : List Fraction} → Forall₂ Covered ps xs → Covered (fold_all (endwise (combine top op)) ps) (exact_fold (exact_combine top op) xs)
  unfolding fold_all exact_fold
  folded_covered op Forall₂.nil = whole_covered 0 0 0 (omega arith) (omega arith)
  folded_covered op (Forall₂.cons {a = p} {b = y} r rs) = fold_covered (endwise (combine top op)) (exact_combine top op) (op_covered top pos op) p y r rs

  rule_covered : (w : ℕ) (op : Op) (ls : List Literal) → ((b : ℕ) → mentions ls b ≡ true → Covered (I b) (x b)) → Covered (rule_value top I w op ls) (exact_rule top x w op ls)
  rule_covered w op ls h = weighted_covered top pos w _ _ (folded_covered op (literals_covered ls h))

  added : (t : Bool) {p : Interval} {y : Fraction} {ps : List Interval} {ys : List Fraction} → (t ≡ true → Covered p y) → Forall₂ Covered ps ys
      → Forall₂ Covered (only_if t p ++ ps) (cond t (y ∷ []) [] ++ ys)
  added true r rs = Forall₂.cons (r refl) rs
  added false r rs = rs

  bodies_covered : (c k : ℕ) (ls : List Line) → ChosenFrom choice k ls → ((b : ℕ) → lines_name ls c b ≡ true → Covered (I b) (x b))
      → Forall₂ Covered (bodies top I c ls) (exact_bodies top choice x c k ls)
  unfolding bodies exact_bodies lines_name
  bodies_covered c k [] g h = Forall₂.nil
  bodies_covered c k (fact d l u ∷ ls) g h = added (eqb d c) (λ e. whole_covered l u (choice k) g.0.0 g.0.1) (bodies_covered c (suc k) ls g.1 h)
  bodies_covered c k (rule d w op lits ∷ ls) g h =
      added (eqb d c) (λ e. rule_covered w op lits (λ b f. h b (left (eqb d c && mentions lits b) (lines_name ls c b) (rw (e, f)))))
      (bodies_covered c (suc k) ls g.1 (λ b f. h b (right (eqb d c && mentions lits b) (lines_name ls c b) f)))
  bodies_covered c k (query r d ∷ ls) g h = bodies_covered c (suc k) ls g.1 h
  bodies_covered c k (default d ∷ ls) g h = bodies_covered c (suc k) ls g.1 h

  largest_of_covered : (d : Interval) {ps : List Interval} {xs : List Fraction} → (ps ≡ [] → Covered d (whole 0)) → Forall₂ Covered ps xs
      → Covered (largest_of d ps) (exact_fold (exact_combine top X) xs)
  unfolding largest_of exact_fold
  largest_of_covered d z Forall₂.nil = z refl
  largest_of_covered d z (Forall₂.cons {a = p} {b = y} r rs) = fold_covered largest (exact_combine top X) (largest_covered top pos) p y r rs

-- a condition has an F or R line exactly if its body has a value
added_none : (t : Bool) (p : Interval) (ps : List Interval) → only_if t p ++ ps ≡ [] → (t ≡ false) × (ps ≡ [])
added_none true p ps e = absurd (omega (arith, ap length e))
added_none false p ps e = (refl, e)

body_none : (top : ℕ) (I : Assign) (c : ℕ) (ls : List Line) → bodies top I c ls ≡ [] → has_body ls c ≡ false
unfolding bodies has_body
body_none top I c [] e = refl
body_none top I c (fact d l u ∷ ls) e = let z = added_none (eqb d c) _ (bodies top I c ls) e in rw z.0 (body_none top I c ls z.1)
body_none top I c (rule d w op lits ∷ ls) e = let z = added_none (eqb d c) _ (bodies top I c ls) e in rw z.0 (body_none top I c ls z.1)
body_none top I c (query r d ∷ ls) e = body_none top I c ls e
body_none top I c (default d ∷ ls) e = body_none top I c ls e

neither : (a b : Bool) → (a || b) ≡ false → (a ≡ false) × (b ≡ false)
neither true b e = absurd (false≢true (sym e))
neither false b e = (refl, e)

none_body : (top : ℕ) (I : Assign) (c : ℕ) (ls : List Line) → has_body ls c ≡ false → bodies top I c ls ≡ []
unfolding bodies has_body
none_body top I c [] e = refl
none_body top I c (fact d l u ∷ ls) e = let z = neither (eqb d c) (has_body ls c) e in rw z.0 (none_body top I c ls z.1)
none_body top I c (rule d w op lits ∷ ls) e = let z = neither (eqb d c) (has_body ls c) e in rw z.0 (none_body top I c ls z.1)
none_body top I c (query r d ∷ ls) e = none_body top I c ls e
none_body top I c (default d ∷ ls) e = none_body top I c ls e

module _ (page : Page) (proper : Proper page) (choice : ℕ → ℕ) where
  bodyless_covers : (c : ℕ) → may_take_any page c ≡ false → has_body page.lines c ≡ false → Covered (bodyless page c) (whole 0)
  unfolding bodyless
  bodyless_covers c m n = go (unknown_by_default page c) (has_body page.lines c) m n
    where
      go : (t b : Bool) → (t && not b) ≡ false → b ≡ false → Covered (cond t (unknown page.top) certainly_false) (whole 0)
      go t true m n = absurd (false≢true (sym n))
      go true false m n = absurd (false≢true (sym m))
      go false false m n = whole_covered 0 0 0 (omega arith) (omega arith)

  pub T_covers : (I : Assign) (x : Figures) → ChosenFrom choice 0 page.lines → (c : ℕ) → may_take_any page c ≡ false
      → ((b : ℕ) → names page c b ≡ true → Covered (I b) (x b))
      → Covered (T page I c) (exact_body page choice x c)
  unfolding T exact_body
  T_covers I x g c m h =
      largest_of_covered page.top proper.top_least choice I x (bodyless page c) (λ e. bodyless_covers c m (body_none page.top I c page.lines e))
      (bodies_covered page.top proper.top_least choice I x c 0 page.lines g h)

  -- one that may take any fraction has the body value [0;top]
  T_any : (I : Assign) (c : ℕ) → may_take_any page c ≡ true → T page I c ≡ unknown page.top
  unfolding T bodyless largest_of
  T_any I c m = go (unknown_by_default page c) (has_body page.lines c) m (λ e. none_body page.top I c page.lines e)
    where
      go : (t b : Bool) → (t && not b) ≡ true → (b ≡ false → bodies page.top I c page.lines ≡ [])
          → largest_of (cond t (unknown page.top) certainly_false) (bodies page.top I c page.lines) ≡ unknown page.top
      go true true m z = absurd (false≢true m)
      go true false m z = rw (z refl)
      go false b m z = absurd (false≢true m)

  -- for a set of conditions that has all that its members name
  module _ {reached : ℕ → Type 0} (shut : (a b : ℕ) → reached a → names page a b ≡ true → reached b) {x : Figures} (E : Exact page choice reached x) where
    -- the exact body value of a reached condition is a fraction, so that "equal" says what it should
    pub body_fraction : (c : ℕ) → reached c → may_take_any page c ≡ false → IsFraction (exact_body page choice x c)
    unfolding bottom
    body_fraction c r m =
        (T_covers (bottom page.top) x E.chosen c m
        (λ b e. record { fraction = E.fractions b (shut c b r e); covered = record { from_low = omega arith; to_high = E.to_top b (shut c b r e) } })
        ).fraction

    iter_covers : (k c : ℕ) → reached c → Covers (iter page.top (T page) k c) (x c)
    unfolding iter bottom
    iter_covers zero c r = record { from_low = omega arith; to_high = E.to_top c r }
    iter_covers (suc k) c r =
        by_bool (may_take_any page c)
        (λ m. rw (T_any (iter page.top (T page) k) c m) (record { from_low = omega arith; to_high = E.to_top c r }))
        (λ m.
        let v = T_covers (iter page.top (T page) k) x E.chosen c m (λ b e. record { fraction = E.fractions b (shut c b r e); covered = iter_covers k b (shut c b r e) }) in
        covers_equal v.fraction (E.equal c r m) v.covered)

    pub covers_shut : {P : Assign} → IsPlain page P → (c : ℕ) → c < page.conditions → reached c → Covers (P c) (x c)
    unfolding lfp
    covers_shut {P} p c l r =
        subst (λ (q : Interval). Covers q (x c)) (sym (plain_one page proper p (plain_is page proper) c l)) (iter_covers (page.conditions * (page.top + page.top)) c r)

-- the covering rule, for a proper page
pub plain_covers : (page : Page) → Proper page → PlainCovers page
plain_covers page w P p qs asked choice x E c r =
    covers_shut page w choice (λ a b h e. named h e) E p c (reached_real page qs (names_inside page w) asked r) r

-- and so for every page area that no operation refuses with 10
pub area_covers : (a : List ℕ) → sound a ≡ true → PlainCovers (page_of a)
area_covers a e = plain_covers (page_of a) (sound_proper a e)
