-- An end of a body value reads one end of each condition that a rule names plainly, and the other of each that it negates. Assumes nothing.
use mathlib.Core.Path.{◌≡◌, refl, ap, ap₂, subst}
use mathlib.Core.Bool.{Bool, true, false, ◌&&◌, ◌||◌, or-true}
use mathlib.Core.List
use mathlib.Core.List.{List, [], ◌∷◌, ◌++◌, append-nil, map, Forall₂}
use mathlib.Core.Logic.{inl, inr}
use Prim.Native.Nat.{ℕ, ◌+◌, ◌*◌, ◌-◌, ◌<◌, max}
use native.Mathlib.Omega.{arith}
use lib.Dec.{eqb}
use borrow.Author.Tests.{eq-eqb, eqb-true}
use Rattle.semantics.specs.Area.{code_of}
use Rattle.fixpoint.specs.Interval.{Interval, Assign}
use Rattle.semantics.specs.Body.{literal_value, only_if, line_body, bodies, bodyless, largest_of, T}
use Rattle.semantics.specs.Grade.{End, lower, upper, divided, combine, endwise, fold_from, fold_all, weighted, negated}
use Rattle.semantics.specs.Page.{Literal, positive, negative, condition_of, mentions, Line, fact, rule, query, default, lines_name, Page, names}
use Rattle.semantics.proofs.Proper.{LiteralsBelow, InRange, AllInRange, Proper}
use Rattle.semantics.proofs.Soundness.{both_true}
use Rattle.semantics.proofs.Table.{or_cases}
use Rattle.index.specs.Readers.{among, lines_read}
use Rattle.value.specs.Table.{end_of, other}
use Rattle.settle.specs.Ends.{literal_code, reads, EndLocal}

left : (a b : Bool) → a ≡ true → (a || b) ≡ true
left a b e = rw e

right : (a b : Bool) → b ≡ true → (a || b) ≡ true
right a b e = rw (e, or-true)

-- what is read is named
literal_named : (g : Bool) (l : Literal) (c : ℕ) → eqb (code_of l) (literal_code g c) ≡ true → eqb (condition_of l) c ≡ true
literal_named false (positive d) c h = eq-eqb d c (omega (arith, eqb-true (2 * d) (2 * c) h))
literal_named false (negative d) c h = absurd (omega (arith, eqb-true (2 * d + 1) (2 * c) h))
literal_named true (positive d) c h = absurd (omega (arith, eqb-true (2 * d) (2 * c + 1) h))
literal_named true (negative d) c h = eq-eqb d c (omega (arith, eqb-true (2 * d + 1) (2 * c + 1) h))

among_mentions : (g : Bool) (ls : List Literal) (c : ℕ) → among (literal_code g c) ls ≡ true → mentions ls c ≡ true
unfolding among mentions
among_mentions g [] c h = h
among_mentions g (l ∷ ls) c h =
    elim (or_cases (eqb (code_of l) (literal_code g c)) (among (literal_code g c) ls) h) [
      | inl e ↦ left _ _ (literal_named g l c e)
      | inr e ↦ right (eqb (condition_of l) c) _ (among_mentions g ls c e)
    ]

read_named : (g : Bool) (ls : List Line) (a c : ℕ) → lines_read (literal_code g c) ls a ≡ true → lines_name ls a c ≡ true
unfolding lines_read lines_name
read_named g [] a c h = h
read_named g (fact d l u ∷ ls) a c h = read_named g ls a c h
read_named g (rule d w op lits ∷ ls) a c h =
    elim (or_cases (eqb d a && among (literal_code g c) lits) (lines_read (literal_code g c) ls a) h) [
      | inl e ↦ let b = both_true (eqb d a) (among (literal_code g c) lits) e in left (eqb d a && mentions lits c) (lines_name ls a c) (rw (b.0, among_mentions g lits c b.1))
      | inr e ↦ right (eqb d a && mentions lits c) _ (read_named g ls a c e)
    ]
read_named g (query r d ∷ ls) a c h = read_named g ls a c h
read_named g (default d ∷ ls) a c h = read_named g ls a c h

-- one end is the same
abbrev Level : End → Interval → Interval → Type 0
Level e p q = end_of e p ≡ end_of e q

-- whatever is made end by end keeps that
endwise_level : (e : End) (f : End → ℕ → ℕ → ℕ) (p q p' q' : Interval) → Level e p q → Level e p' q' → Level e (endwise f p p') (endwise f q q')
endwise_level upper f p q p' q' h g = ap₂ (f upper) h g
endwise_level lower f p q p' q' h g = ap₂ (f lower) h g

weighted_level : (e : End) (top w : ℕ) (p q : Interval) → Level e p q → Level e (weighted top w p) (weighted top w q)
unfolding weighted
weighted_level upper top w p q h = ap (λ (x : ℕ). divided upper (x * w) top) h
weighted_level lower top w p q h = ap (λ (x : ℕ). divided lower (x * w) top) h

negated_level : (e : End) (top : ℕ) (p q : Interval) → Level (other e) p q → Level e (negated top p) (negated top q)
unfolding negated
negated_level upper top p q h = ap (λ (x : ℕ). top - x) h
negated_level lower top p q h = ap (λ (x : ℕ). top - x) h

folded_level : (e : End) (f : End → ℕ → ℕ → ℕ) (p q : Interval) → Level e p q → {ps qs : List Interval} → Forall₂ (Level e) ps qs
    → Level e (fold_from (endwise f) p ps) (fold_from (endwise f) q qs)
unfolding fold_from
folded_level e f p q h List.Forall₂.nil = h
folded_level e f p q h (List.Forall₂.cons {a = p'} {b = q'} r rs) = folded_level e f (endwise f p p') (endwise f q q') (endwise_level e f p q p' q' h r) rs

rule_level : (e : End) (f : End → ℕ → ℕ → ℕ) {ps qs : List Interval} → Forall₂ (Level e) ps qs → Level e (fold_all (endwise f) ps) (fold_all (endwise f) qs)
unfolding fold_all
rule_level e f List.Forall₂.nil = refl
rule_level e f (List.Forall₂.cons {a = p} {b = q} r rs) = folded_level e f p q r rs

largest_level : (e : End) (d : Interval) {ps qs : List Interval} → Forall₂ (Level e) ps qs → Level e (largest_of d ps) (largest_of d qs)
unfolding largest_of
largest_level e d List.Forall₂.nil = refl
largest_level e d (List.Forall₂.cons {a = p} {b = q} r rs) = folded_level e (λ s. max) p q r rs

chosen : (e : End) (t : Bool) (p q : Interval) {ps qs : List Interval} → (t ≡ true → Level e p q) → Forall₂ (Level e) ps qs
    → Forall₂ (Level e) (only_if t p ++ ps) (only_if t q ++ qs)
chosen e true p q r rs = List.Forall₂.cons (r refl) rs
chosen e false p q r rs = rs

module _ (n top : ℕ) (e : End) (I J : Assign) where
  -- I and J are the same at what is read
  Plain : (ℕ → Bool) → Type 0
  Plain s = (b : ℕ) → b < n → s b ≡ true → Level e (I b) (J b)

  Negated : (ℕ → Bool) → Type 0
  Negated s = (b : ℕ) → b < n → s b ≡ true → Level (other e) (I b) (J b)

  literal_level : (l : Literal) → condition_of l < n → Plain (λ b. eqb (code_of l) (literal_code false b)) → Negated (λ b. eqb (code_of l) (literal_code true b))
      → Level e (literal_value top I l) (literal_value top J l)
  unfolding Plain Negated
  literal_level (positive d) m h g = h d m (eq-eqb (2 * d) (2 * d) refl)
  literal_level (negative d) m h g = negated_level e top (I d) (J d) (g d m (eq-eqb (2 * d + 1) (2 * d + 1) refl))

  literals_level : (ls : List Literal) → LiteralsBelow n ls → Plain (λ b. among (literal_code false b) ls) → Negated (λ b. among (literal_code true b) ls)
      → Forall₂ (Level e) (map (literal_value top I) ls) (map (literal_value top J) ls)
  unfolding among Plain Negated
  literals_level [] w h g = List.Forall₂.nil
  literals_level (l ∷ ls) w h g =
      List.Forall₂.cons (literal_level l w.0 (λ b m f. h b m (left _ _ f)) (λ b m f. g b m (left _ _ f)))
      (literals_level ls w.1 (λ b m f. h b m (right (eqb (code_of l) (literal_code false b)) _ f)) (λ b m f. g b m (right (eqb (code_of l) (literal_code true b)) _ f)))

  bodies_level : (ls : List Line) → AllInRange top n ls → (c : ℕ) → Plain (λ b. lines_read (literal_code false b) ls c) → Negated (λ b. lines_read (literal_code true b) ls c)
      → Forall₂ (Level e) (bodies top I c ls) (bodies top J c ls)
  unfolding bodies lines_read Plain Negated
  bodies_level [] w c h g = List.Forall₂.nil
  bodies_level (fact d l u ∷ ls) w c h g = chosen e (eqb d c) _ _ (λ t. refl) (bodies_level ls w.1 c h g)
  bodies_level (rule d v op lits ∷ ls) w c h g =
      chosen e (eqb d c) _ _
      (λ t. weighted_level e top v _ _ (rule_level e (combine top op) (literals_level lits w.0.5
      (λ b m f. h b m (left (eqb d c && among (literal_code false b) lits) _ (rw (t, f)))) (λ b m f. g b m (left (eqb d c && among (literal_code true b) lits) _ (rw (t, f)))))))
      (bodies_level ls w.1 c (λ b m f. h b m (right (eqb d c && among (literal_code false b) lits) _ f)) (λ b m f. g b m (right (eqb d c && among (literal_code true b) lits) _ f)))
  bodies_level (query r d ∷ ls) w c h g = bodies_level ls w.1 c h g
  bodies_level (default d ∷ ls) w c h g = bodies_level ls w.1 c h g

-- what a line adds at I and at J, where they are the same at what it reads
only_pair : (e : End) {ps qs : List Interval} {p : Interval} → Forall₂ (Level e) ps qs → ps ≡ p ∷ [] → (q : Interval) × (qs ≡ q ∷ []) × Level e p q
only_pair e List.Forall₂.nil h = let z : ◌≡◌ {A = ℕ} 0 1 = cc in absurd (omega arith)
only_pair e {p = p} (List.Forall₂.cons {a = p'} {b = q'} r List.Forall₂.nil) h = (q', refl, let z : p' ≡ p = cc in subst (λ (x : Interval). Level e x q') z r)
only_pair e (List.Forall₂.cons r (List.Forall₂.cons r' rs)) h = let z : ◌≡◌ {A = ℕ} 0 1 = cc in absurd (omega arith)

pub line_level : (n top : ℕ) (e : End) (I J : Assign) (l : Line) → InRange top n l → (c : ℕ)
    → ((b : ℕ) → b < n → lines_read (2 * b) (l ∷ []) c ≡ true → end_of e (I b) ≡ end_of e (J b)) → ((b : ℕ) → b < n → end_of (other e) (I b) ≡ end_of (other e) (J b))
    → {p : Interval} → line_body top I c l ≡ p ∷ [] → (q : Interval) × (line_body top J c l ≡ q ∷ []) × (end_of e p ≡ end_of e q)
unfolding bodies Plain Negated
line_level n top e I J l w c h g {p} d =
    let f : Forall₂ (Level e) (line_body top I c l ++ []) (line_body top J c l ++ []) = bodies_level n top e I J (l ∷ []) (w, tt) c h (λ b m r. g b m) in
    only_pair e (rw (append-nil, append-nil) at f) d

pub page_ends : (page : Page) → Proper page → EndLocal page.conditions (T page) (names page) (reads page)
unfolding T Plain Negated
page_ends page w =
    record {
      named = λ g A B h. read_named g page.lines A B h;
      local_end = λ e I J A l h g. largest_level e (bodyless page A) (bodies_level page.conditions page.top e I J page.lines w.ranged A h g);
    }
