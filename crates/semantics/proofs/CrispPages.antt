-- On a crisp page no division is inexact: T does not widen. Assumes nothing.
use mathlib.Core.Path.{◌≡◌, refl}
use mathlib.Core.Logic.{◌≢◌}
use mathlib.Core.Bool.{Bool, true, false, ◌&&◌}
use mathlib.Core.List.{List, [], ◌∷◌, ◌++◌, map, Forall₂}
use Prim.Native.Nat.{ℕ, zero, suc, ◌+◌, ◌*◌, ◌-◌, ◌/◌, ◌≤◌, ◌<◌}
use native.Mathlib.Nat.{le-div_iff_mul-le, div-lt_iff_lt-mul, suc-mul}
use native.Mathlib.Omega.{arith}
use lib.Dec.{eqb}
use borrow.Author.Tests.{eq-eqb}
use Rattle.fixpoint.specs.Interval.{Interval, Assign}
use Rattle.semantics.specs.Body.{literal_value, only_if, bodies, unknown_by_default, bodyless, largest_of, T}
use Rattle.semantics.specs.Grade.{End, lower, upper, rounding, divided, Op, M, X, L, B, P, combine, endwise, fold_from, fold_all, weighted, negated, largest}
use Rattle.semantics.specs.Page.{Literal, positive, negative, mentions, Line, fact, rule, query, default, lines_name, Page, names, defaults}
use Rattle.semantics.proofs.Proper.{LiteralsBelow, AllInRange, Proper}
use Rattle.semantics.proofs.Ops.{combine_mono}
use Rattle.semantics.specs.Layers.{denies, lines_negate, negates, CrispLines, Crisp}
use Rattle.semantics.proofs.Layers.{or_left, or_right}

-- less than top is added, at either end and however it rounds
rounding_small : (top : ℕ) (e : End) → rounding e top ≤ top - 1
unfolding rounding
rounding_small top lower = omega arith
rounding_small top upper = omega arith

-- so a multiple of top is divided exactly
exactly : (top x r : ℕ) → 1 ≤ top → r ≤ top - 1 → (x * top + r) / top ≡ x
exactly zero x r p h = absurd (omega arith)
exactly (suc k) x r p h =
    let low : x ≤ (x * suc k + r) / suc k = (le-div_iff_mul-le {k = suc k} {x = x} (omega arith)).1 (omega arith) in
    let high : (x * suc k + r) / suc k < suc x = (div-lt_iff_lt-mul {k = suc k} {x = x * suc k + r} {y = suc x} (omega arith)).1 (omega (arith, suc-mul x (suc k))) in
    omega arith

pub divided_exactly : (top : ℕ) (e : End) (x : ℕ) → 1 ≤ top → divided e (x * top) top ≡ x
unfolding divided
divided_exactly top e x p = exactly top x (rounding e top) p (rounding_small top e)

-- but for P an op is the same at both ends
combine_even : (top : ℕ) (op : Op) → op ≢ P → (p q : ℕ) → combine top op upper p q ≡ combine top op lower p q
unfolding combine
combine_even top M h p q = refl
combine_even top X h p q = refl
combine_even top L h p q = refl
combine_even top B h p q = refl
combine_even top P h p q = absurd (h refl)

-- p lies below q, ends and all
abbrev Beneath : Interval → Interval → Type 0
Beneath p q = p.high ≤ q.low

fold_beneath : (f : Interval → Interval → Interval) → ((p q p' q' : Interval) → Beneath p q → Beneath p' q' → Beneath (f p p') (f q q'))
    → (p q : Interval) → Beneath p q → {ps qs : List Interval} → Forall₂ Beneath ps qs → Beneath (fold_from f p ps) (fold_from f q qs)
unfolding fold_from
fold_beneath f g p q h Forall₂.nil = h
fold_beneath f g p q h (Forall₂.cons {a = p'} {b = q'} r rs) = fold_beneath f g (f p p') (f q q') (g p q p' q' h r) rs

op_beneath : (top : ℕ) (op : Op) → op ≢ P → (p q p' q' : Interval) → Beneath p q → Beneath p' q'
    → Beneath (endwise (combine top op) p p') (endwise (combine top op) q q')
op_beneath top op n p q p' q' h g = omega (arith, combine_even top op n p.high p'.high, combine_mono top op lower h g)

folded_beneath : (top : ℕ) (op : Op) → op ≢ P → {ps qs : List Interval} → Forall₂ Beneath ps qs
    → Beneath (fold_all (endwise (combine top op)) ps) (fold_all (endwise (combine top op)) qs)
unfolding fold_all
folded_beneath top op n Forall₂.nil = omega arith
folded_beneath top op n (Forall₂.cons {a = p} {b = q} r rs) = fold_beneath (endwise (combine top op)) (op_beneath top op n) p q r rs

weighted_beneath : (top w : ℕ) → 1 ≤ top → w ≡ top → (p q : Interval) → Beneath p q → Beneath (weighted top w p) (weighted top w q)
unfolding weighted
weighted_beneath top w l e p q h = rw e (omega (arith, divided_exactly top upper p.high l, divided_exactly top lower q.low l))

negated_beneath : (top : ℕ) (p q : Interval) → Beneath q p → Beneath (negated top p) (negated top q)
unfolding negated
negated_beneath top p q h = omega arith

largest_beneath : (d : Interval) → Beneath d d → {ps qs : List Interval} → Forall₂ Beneath ps qs → Beneath (largest_of d ps) (largest_of d qs)
unfolding largest_of
largest_beneath d z Forall₂.nil = z
largest_beneath d z (Forall₂.cons {a = p} {b = q} r rs) = fold_beneath largest (λ p q p' q' h g. omega arith) p q r rs

chosen : (t : Bool) (p q : Interval) {ps qs : List Interval} → (t ≡ true → Beneath p q) → Forall₂ Beneath ps qs
    → Forall₂ Beneath (only_if t p ++ ps) (only_if t q ++ qs)
chosen true p q r rs = Forall₂.cons (r refl) rs
chosen false p q r rs = rs

module _ (n top : ℕ) (pos : 1 ≤ top) (I J : Assign) where
  -- I lies below J at what is named, J below I at what is negated
  Plain : (ℕ → Bool) → Type 0
  Plain s = (b : ℕ) → b < n → s b ≡ true → (I b).high ≤ (J b).low

  Negated : (ℕ → Bool) → Type 0
  Negated s = (b : ℕ) → b < n → s b ≡ true → (J b).high ≤ (I b).low

  literals_beneath : (ls : List Literal) → LiteralsBelow n ls → Plain (mentions ls) → Negated (denies ls)
      → Forall₂ Beneath (map (literal_value top I) ls) (map (literal_value top J) ls)
  unfolding mentions denies Plain Negated
  literals_beneath [] w h g = Forall₂.nil
  literals_beneath (positive c ∷ ls) w h g =
      Forall₂.cons (h c w.0 (or_left (eqb c c) (mentions ls c) (eq-eqb c c refl)))
      (literals_beneath ls w.1 (λ b m e. h b m (or_right (eqb c b) (mentions ls b) e)) g)
  literals_beneath (negative c ∷ ls) w h g =
      Forall₂.cons (negated_beneath top (I c) (J c) (g c w.0 (or_left (eqb c c) (denies ls c) (eq-eqb c c refl))))
      (literals_beneath ls w.1 (λ b m e. h b m (or_right (eqb c b) (mentions ls b) e)) (λ b m e. g b m (or_right (eqb c b) (denies ls b) e)))

  bodies_beneath : (ls : List Line) → AllInRange top n ls → CrispLines top ls → (c : ℕ) → Plain (lines_name ls c) → Negated (lines_negate ls c)
      → Forall₂ Beneath (bodies top I c ls) (bodies top J c ls)
  unfolding bodies lines_name lines_negate Plain Negated
  bodies_beneath [] w s c h g = Forall₂.nil
  bodies_beneath (fact d l u ∷ ls) w s c h g = chosen (eqb d c) _ _ (λ t. omega (arith, s.0)) (bodies_beneath ls w.1 s.1 c h g)
  bodies_beneath (rule d v op lits ∷ ls) w s c h g =
      chosen (eqb d c) _ _
      (λ t. weighted_beneath top v pos s.0.0 _ _ (folded_beneath top op s.0.1 (literals_beneath lits w.0.5
      (λ b m e. h b m (or_left (eqb d c && mentions lits b) (lines_name ls c b) (rw (t, e))))
      (λ b m e. g b m (or_left (eqb d c && denies lits b) (lines_negate ls c b) (rw (t, e)))))))
      (bodies_beneath ls w.1 s.1 c (λ b m e. h b m (or_right (eqb d c && mentions lits b) (lines_name ls c b) e))
      (λ b m e. g b m (or_right (eqb d c && denies lits b) (lines_negate ls c b) e)))
  bodies_beneath (query r d ∷ ls) w s c h g = bodies_beneath ls w.1 s.1 c h g
  bodies_beneath (default d ∷ ls) w s c h g = absurd s.0

no_defaults : (top : ℕ) (ls : List Line) → CrispLines top ls → (c : ℕ) → defaults ls c ≡ 0
unfolding defaults
no_defaults top [] s c = refl
no_defaults top (fact d l u ∷ ls) s c = no_defaults top ls s.1 c
no_defaults top (rule d v op lits ∷ ls) s c = no_defaults top ls s.1 c
no_defaults top (query r d ∷ ls) s c = no_defaults top ls s.1 c
no_defaults top (default d ∷ ls) s c = absurd s.0

-- no condition of a crisp page is unknown by default
pub none_unknown : (page : Page) → Crisp page → (c : ℕ) → unknown_by_default page c ≡ false
unfolding unknown_by_default
none_unknown page s c = rw (no_defaults page.top page.lines s c)

bodyless_beneath : (page : Page) → Crisp page → (c : ℕ) → Beneath (bodyless page c) (bodyless page c)
unfolding bodyless
bodyless_beneath page s c = rw (none_unknown page s c) (omega arith)

-- T does not widen: where I lies below J in what c names, and J below I in what it negates, so does T I below T J
pub T_beneath : (page : Page) → Proper page → Crisp page → (I J : Assign) (c : ℕ)
    → ((b : ℕ) → b < page.conditions → names page c b ≡ true → (I b).high ≤ (J b).low)
    → ((b : ℕ) → b < page.conditions → negates page c b ≡ true → (J b).high ≤ (I b).low) → (T page I c).high ≤ (T page J c).low
unfolding T Plain Negated
T_beneath page w s I J c h g =
    largest_beneath (bodyless page c) (bodyless_beneath page s c) (bodies_beneath page.conditions page.top w.top_least I J page.lines w.ranged s c h g)
