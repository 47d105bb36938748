-- A relation between intervals that the ops keep is kept by T: one induction over a page. Assumes nothing.
use mathlib.Core.Path.{◌≡◌, refl, ap, ap₂}
use mathlib.Core.Bool.{Bool, true, false, cond, ◌&&◌, ◌||◌, or-true}
use mathlib.Core.List.{List, [], ◌∷◌, ◌++◌, map, Forall₂}
use Prim.Native.Nat.{ℕ, ◌≤◌, ◌<◌, ◌*◌}
use native.Mathlib.Nat.{mul-le-mul_right}
use native.Mathlib.Omega.{arith}
use lib.Dec.{eqb}
use borrow.Author.Tests.{eq-eqb}
use Rattle.fixpoint.specs.Interval.{Interval, Within, Assign}
use Rattle.fixpoint.specs.KnowledgeOrder.{Under, unknown, certainly_false}
use Rattle.semantics.specs.Body.{literal_value, rule_value, only_if, bodies, unknown_by_default, bodyless, largest_of, T}
use Rattle.semantics.specs.Grade.{lower, upper, Op, combine, endwise, fold_from, fold_all, weighted, negated, largest}
use Rattle.semantics.specs.Page.{Literal, positive, negative, condition_of, mentions, Line, fact, rule, query, default, lines_name, Page, names}
use Rattle.semantics.proofs.Proper.{LiteralsBelow, AllInRange, Proper}
use Rattle.semantics.proofs.Ops.{divided_mono, divided_ends, divided_bounded, combine_mono, combine_ends, combine_bounded}

pub record Respected (top : ℕ) (R : Interval → Interval → Type 0) : Type 0 where
  pub facts : (l h : ℕ) → l ≤ h → h ≤ top → R (record { low = l; high = h }) (record { low = l; high = h })
  pub negations : (p q : Interval) → R p q → R (negated top p) (negated top q)
  pub ops : (op : Op) (p q p' q' : Interval) → R p q → R p' q' → R (endwise (combine top op) p p') (endwise (combine top op) q q')
  pub weights : (w : ℕ) (p q : Interval) → w ≤ top → R p q → R (weighted top w p) (weighted top w q)
  pub largest : (p q p' q' : Interval) → R p q → R p' q' → R (largest p p') (largest q q')

pub left : (a b : Bool) → a ≡ true → (a || b) ≡ true
left a b e = rw e

pub right : (a b : Bool) → b ≡ true → (a || b) ≡ true
right a b e = rw (e, or-true)

module _ (n : ℕ) {top : ℕ} {R : Interval → Interval → Type 0} (k : Respected top R) (I J : Assign) where
  fold_kept : (f : Interval → Interval → Interval) → ((p q p' q' : Interval) → R p q → R p' q' → R (f p p') (f q q'))
      → (p q : Interval) → R p q → {ps qs : List Interval} → Forall₂ R ps qs → R (fold_from f p ps) (fold_from f q qs)
  unfolding fold_from
  fold_kept f g p q h Forall₂.nil = h
  fold_kept f g p q h (Forall₂.cons {a = p'} {b = q'} r rs) = fold_kept f g (f p p') (f q q') (g p q p' q' h r) rs

  literal_kept : (l : Literal) → R (I (condition_of l)) (J (condition_of l)) → R (literal_value top I l) (literal_value top J l)
  literal_kept (positive c) h = h
  literal_kept (negative c) h = k.negations (I c) (J c) h

  literals_kept : (ls : List Literal) → LiteralsBelow n ls → ((b : ℕ) → b < n → mentions ls b ≡ true → R (I b) (J b))
      → Forall₂ R (map (literal_value top I) ls) (map (literal_value top J) ls)
  unfolding mentions
  literals_kept [] w h = Forall₂.nil
  literals_kept (l ∷ ls) w h =
      Forall₂.cons (literal_kept l (h (condition_of l) w.0 (left _ _ (eq-eqb (condition_of l) (condition_of l) refl))))
      (literals_kept ls w.1 (λ b m e. h b m (right (eqb (condition_of l) b) (mentions ls b) e)))

  folded_kept : (op : Op) {ps qs : List Interval} → Forall₂ R ps qs → R (fold_all (endwise (combine top op)) ps) (fold_all (endwise (combine top op)) qs)
  unfolding fold_all
  folded_kept op Forall₂.nil = k.facts 0 0 (omega arith) (omega arith)
  folded_kept op (Forall₂.cons {a = p} {b = q} r rs) = fold_kept (endwise (combine top op)) (k.ops op) p q r rs

  rule_kept : (w : ℕ) (op : Op) (ls : List Literal) → w ≤ top → LiteralsBelow n ls → ((b : ℕ) → b < n → mentions ls b ≡ true → R (I b) (J b))
      → R (rule_value top I w op ls) (rule_value top J w op ls)
  rule_kept w op ls l v h = k.weights w _ _ l (folded_kept op (literals_kept ls v h))

  chosen : (t : Bool) {p q : Interval} {ps qs : List Interval} → (t ≡ true → R p q) → Forall₂ R ps qs → Forall₂ R (only_if t p ++ ps) (only_if t q ++ qs)
  chosen true r rs = Forall₂.cons (r refl) rs
  chosen false r rs = rs

  bodies_kept : (ls : List Line) → AllInRange top n ls → (c : ℕ) → ((b : ℕ) → b < n → lines_name ls c b ≡ true → R (I b) (J b))
      → Forall₂ R (bodies top I c ls) (bodies top J c ls)
  unfolding bodies lines_name
  bodies_kept [] w c h = Forall₂.nil
  bodies_kept (fact d l u ∷ ls) w c h = chosen (eqb d c) (λ e. k.facts l u w.0.1 w.0.2) (bodies_kept ls w.1 c h)
  bodies_kept (rule d v op lits ∷ ls) w c h =
      chosen (eqb d c) (λ e. rule_kept v op lits w.0.2 w.0.5 (λ b m f. h b m (left (eqb d c && mentions lits b) (lines_name ls c b) (rw (e, f)))))
      (bodies_kept ls w.1 c (λ b m f. h b m (right (eqb d c && mentions lits b) (lines_name ls c b) f)))
  bodies_kept (query r d ∷ ls) w c h = bodies_kept ls w.1 c h
  bodies_kept (default d ∷ ls) w c h = bodies_kept ls w.1 c h

  greatest_kept : (d : Interval) → R d d → {ps qs : List Interval} → Forall₂ R ps qs → R (largest_of d ps) (largest_of d qs)
  unfolding largest_of
  greatest_kept d z Forall₂.nil = z
  greatest_kept d z (Forall₂.cons {a = p} {b = q} r rs) = fold_kept largest k.largest p q r rs

bodyless_kept : {R : Interval → Interval → Type 0} (page : Page) → Respected page.top R → (c : ℕ) → R (bodyless page c) (bodyless page c)
unfolding bodyless
bodyless_kept {R} page k c = go (unknown_by_default page c)
  where
    go : (t : Bool) → R (cond t (unknown page.top) certainly_false) (cond t (unknown page.top) certainly_false)
    go true = k.facts 0 page.top (omega arith) (omega arith)
    go false = k.facts 0 0 (omega arith) (omega arith)

-- if R holds between I and J wherever the condition looks, it holds between the body values
pub T_kept : {R : Interval → Interval → Type 0} (page : Page) → Proper page → Respected page.top R → (I J : Assign) (c : ℕ)
    → ((b : ℕ) → b < page.conditions → names page c b ≡ true → R (I b) (J b)) → R (T page I c) (T page J c)
unfolding T
T_kept page w k I J c h = greatest_kept page.conditions k I J (bodyless page c) (bodyless_kept page k c) (bodies_kept page.conditions k I J page.lines w.ranged c h)

-- The four relations: equal values, at or under in knowledge, within top, and not contradicting one another.
pub same_respected : (top : ℕ) → Respected top ◌≡◌
same_respected top =
    record {
      facts = λ l h a b. refl;
      negations = λ p q e. ap (negated top) e;
      ops = λ op p q p' q' e f. ap₂ (endwise (combine top op)) e f;
      weights = λ w p q l e. ap (weighted top w) e;
      largest = λ p q p' q' e f. ap₂ largest e f;
    }

pub under_respected : (top : ℕ) → Respected top Under
unfolding negated weighted
under_respected top =
    record {
      facts = λ l h a b. omega arith;
      negations = λ p q h. omega arith;
      ops = λ op p q p' q' h g. record { lows = combine_mono top op lower h.lows g.lows; highs = combine_mono top op upper h.highs g.highs };
      weights = λ w p q l h. record { lows = divided_mono top lower (mul-le-mul_right w h.lows); highs = divided_mono top upper (mul-le-mul_right w h.highs) };
      largest = λ p q p' q' h g. omega arith;
    }

pub within_respected : (top : ℕ) → Respected top (λ p q. Within top p)
unfolding negated weighted
within_respected top =
    record {
      facts = λ l h a b. omega arith;
      negations = λ p q h. omega arith;
      ops = λ op p q p' q' h g. record { low_in = combine_bounded top op lower h.low_in g.low_in; high_in = combine_bounded top op upper h.high_in g.high_in };
      weights = λ w p q l h. record { low_in = divided_bounded top lower h.low_in l; high_in = divided_bounded top upper h.high_in l };
      largest = λ p q p' q' h g. omega arith;
    }

-- neither low end lies above the other's high end
pub record Compatible (p q : Interval) : Type 0 where
  pub to : p.low ≤ q.high
  pub from : q.low ≤ p.high

pub compatible_respected : (top : ℕ) → Respected top Compatible
unfolding negated weighted
compatible_respected top =
    record {
      facts = λ l h a b. omega arith;
      negations = λ p q h. omega arith;
      ops = λ op p q p' q' h g. omega (
        arith,
        combine_ends top op p.low p'.low,
        combine_ends top op q.low q'.low,
        combine_mono top op upper h.to g.to,
        combine_mono top op upper h.from g.from,
      );
      weights = λ w p q l h. omega (
        arith,
        divided_ends top (p.low * w),
        divided_ends top (q.low * w),
        divided_mono top upper (mul-le-mul_right w h.to),
        divided_mono top upper (mul-le-mul_right w h.from),
      );
      largest = λ p q p' q' h g. omega arith;
    }
