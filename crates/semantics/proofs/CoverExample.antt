-- The hypothesis of the covering rule can be met: proper fractions on a page, and what covers them. Assumes nothing.
-- Both ends of an interval are whole, so the rule would also hold of exact values that are rounded: only these figures tell them apart.
use mathlib.Core.Path.{◌≡◌, refl, subst, ◌∙◌, sym}
use mathlib.Core.Bool.{Bool, true, true≢false, false}
use mathlib.Core.List.{List, [], ◌∷◌}
use Prim.Native.Nat.{ℕ, ◌≤◌, ◌<◌}
use native.Mathlib.Omega.{arith}
use lib.Dec.{eqb, leb, ltb}
use lib.ListN.{get_or}
use borrow.Author.Tests.{eqb-true, leb-true, ltb-true}
use Rattle.fixpoint.specs.Interval.{Interval, Assign}
use Rattle.semantics.specs.Area.{area_of, sound_to, kind, span, all_under, lines_ok, line_codes, every, defaults_ok, page_of, lines_of}
use Rattle.semantics.specs.Exact.{Fraction, whole, scaled, Equal, Covers, exact_combine, exact_weighted, exact_negated, exact_fold, Figures, exact_bodies, exact_body, Exact, has_body, may_take_any}
use Rattle.semantics.specs.Page.{mentions, lines_name, defaults}
use Rattle.semantics.specs.Reading.{IsPlain, IsClosed, Reached, queried, named}
use Rattle.semantics.specs.Table.{all_below, listed, table_from}
use Rattle.semantics.specs.Body.{unknown_by_default}
use Rattle.semantics.proofs.Bench.{proper, bench}
use Rattle.semantics.proofs.Closure.{reached_real}
use Rattle.semantics.proofs.Cover.{plain_covers}
use Rattle.semantics.proofs.Demand.{under_listed}
use Rattle.semantics.proofs.Proper.{Proper}
use Rattle.semantics.proofs.Readings.{names_inside}
use Rattle.semantics.proofs.Rows.{rows, interval, page6, page_exact}
use Rattle.semantics.proofs.Soundness.{Every, every_true}
use Rattle.semantics.proofs.Table.{all_at}
use Rattle.semantics.proofs.ExactnessNeeds.{page_default, proper_default}

abbrev over : ℕ → ℕ → Fraction
over n d = record { numerator = n; denominator = d }

abbrev pub asks : List ℕ
asks = 3 ∷ 5 ∷ 6 ∷ 7 ∷ 8 ∷ 9 ∷ []

-- 5 in the first F line, 3 in the second
abbrev pub chosen_grades : ℕ → ℕ
chosen_grades k = get_or (5 ∷ 3 ∷ []) k 0

abbrev pub figures : Figures
figures c = get_or (whole 5 ∷ over 5 2 ∷ over 10 3 ∷ over 5 24 ∷ whole 0 ∷ whole 8 ∷ over 25 6 ∷ over 21 4 ∷ over 5 2 ∷ over 10 3 ∷ []) c (whole 0)

is_proper : Proper page_exact
is_proper = proper page_exact (unfold page_exact area_of sound_to kind span all_under lines_ok line_codes defaults_ok defaults all_below page_of lines_of table_from unknown_by_default in refl)

asked : (q : ℕ) → listed q asks ≡ true → q < page_exact.conditions
asked q e = under_listed page_exact.conditions asks (unfold page_exact all_under in refl) q e

inside : {c : ℕ} → Reached page_exact asks c → c < 10
unfolding page_exact
inside r = reached_real page_exact asks (names_inside page_exact is_proper) asked r

-- what is asked of one figure: a fraction, at most top, equal to the exact body value
abbrev tests : ℕ → List Bool
tests c =
    let x = figures c in
    let v = exact_body page_exact chosen_grades figures c in
    ltb 0 x.denominator ∷ leb (scaled x (whole page_exact.top)) (scaled (whole page_exact.top) x) ∷ eqb (scaled x v) (scaled v x) ∷ []

computed : all_below 10 (λ c. every (tests c)) ≡ true
unfolding page_exact all_below exact_body exact_bodies exact_fold exact_combine exact_weighted exact_negated
computed = refl

passed : {c : ℕ} → Reached page_exact asks c → Every (tests c)
passed {c} r = every_true (tests c) (all_at 10 (λ c. every (tests c)) computed c (inside r))

pub exact_example : Exact page_exact chosen_grades (Reached page_exact asks) figures
exact_example =
    record {
      chosen = unfold page_exact in ((omega arith, omega arith), ((omega arith, omega arith), (tt, (tt, (tt, (tt, (tt, (tt, (tt, (tt, (tt, (tt, (tt, tt)))))))))))));
      fractions = λ c r. ltb-true _ _ (passed r).0;
      to_top = λ c r. leb-true _ _ (passed r).1.0;
      equal = λ c r m. eqb-true _ _ (passed r).1.1.0;
    }

-- 2 is reached, through 3, and 10/3 lies within its plain interval
pub two_covered : {P : Assign} → IsPlain page_exact P → Covers (P 2) (over 10 3)
unfolding page_exact listed lines_name mentions
two_covered {P} p = plain_covers page_exact is_proper P p asks asked chosen_grades figures exact_example 2 (named {a = 3} (queried refl) refl)

-- The rule speaks of the plain reading only: in row 6 the figure 1 is exact, and the closed answer [0;0] does not cover it.
abbrev pub ones : Figures
ones c = whole 1

proper6 : Proper page6
proper6 = proper page6 (unfold page6 area_of sound_to kind span all_under lines_ok line_codes defaults_ok defaults all_below page_of lines_of table_from unknown_by_default in refl)

inside6 : {c : ℕ} → Reached page6 (0 ∷ []) c → 0 ≡ c
inside6 {c} r =
    let l : c < page6.conditions = reached_real page6 (0 ∷ []) (names_inside page6 proper6) (λ q e. under_listed page6.conditions (0 ∷ []) (unfold page6 all_under in refl) q e) r in
    unfold page6 in omega arith

pub exact6 : Exact page6 (λ k. 0) (Reached page6 (0 ∷ [])) ones
exact6 =
    record {
      chosen = unfold page6 in (tt, tt);
      fractions = λ c r. omega arith;
      to_top = λ c r. unfold page6 in omega arith;
      equal = λ c r m. subst (λ (c : ℕ). Equal (ones c) (exact_body page6 (λ k. 0) ones c)) (inside6 r) (unfold page6 exact_body exact_bodies exact_fold exact_weighted in refl);
    }

-- A condition that is unknown by default may take any fraction: a half is exact on the page `D,0,U`.
abbrev pub halves : Figures
halves c = over 1 2

inside_default : {c : ℕ} → Reached page_default (0 ∷ []) c → 0 ≡ c
inside_default {c} r =
    let l : c < page_default.conditions = reached_real page_default (0 ∷ []) (names_inside page_default proper_default) (λ q e. under_listed page_default.conditions (0 ∷ []) (unfold page_default all_under in refl) q e) r in
    unfold page_default in omega arith

any_figure : may_take_any page_default 0 ≡ true
unfolding page_default unknown_by_default defaults has_body
any_figure = refl

pub exact_any : Exact page_default (λ k. 0) (Reached page_default (0 ∷ [])) halves
exact_any =
    record {
      chosen = unfold page_default in (tt, tt);
      fractions = λ c r. omega arith;
      to_top = λ c r. unfold page_default in omega arith;
      equal = λ c r m. absurd (true≢false (sym any_figure ∙ subst (λ (c : ℕ). may_take_any page_default c ≡ false) (sym (inside_default r)) m));
    }

pub closed_misses : {I : Assign} → IsClosed page6 I → Covers (I 0) (ones 0) → ⊥
unfolding rows
closed_misses {I} h v =
    let e : I 0 ≡ interval 0 0 = bench.1.1.1.1.1.1.1.1.1.1.1.1.1.1.1.1.1.0.1.every_one I h in
    let w : Covers (interval 0 0) (ones 0) = subst (λ (p : Interval). Covers p (ones 0)) e v in
    let z : 1 ≤ 0 = w.to_high in
    omega arith
