-- "The greatest used length" is 12,804 with the C numbers of ticket 7: no sound area uses more, and one uses as much. Assumes nothing.
use mathlib.Core.Path.{◌≡◌, refl, ap}
use mathlib.Core.Bool.{true}
use mathlib.Core.List.{List, [], ◌∷◌, ◌++◌}
use Prim.Native.Nat.{ℕ, zero, suc, ◌+◌, ◌*◌, ◌-◌, ◌≤◌}
use native.Mathlib.Omega.{arith}
use lib.ListN.{length, get_or, drop}
use borrow.Author.Rules.{rules}
use borrow.Author.Tests.{leb-true, eqb-true}
use Rattle.semantics.specs.Area.{Kind, fact_kind, rule_kind, query_kind, default_kind, no_kind, kind, span_as, span, literals_at, every, field_tests, line_tests, lines_ok, sound_to, sound, first_line, top_of, conditions_of, count_of, used_of, line_codes, area_of}
use Rattle.semantics.specs.Grade.{M}
use Rattle.semantics.specs.Page.{positive, Line, rule, Page, defaults}
use Rattle.semantics.proofs.Proper.{AllInRange, Proper}
use Rattle.semantics.proofs.Soundness.{both_true, Every, every_true, parts_to}
use Rattle.semantics.proofs.ExactAreas.{proper_sound}

-- an entry takes at most 12 numbers: four, and eight literals
short_span : (top n : ℕ) (t : Kind) (x y : ℕ) (lits : List ℕ) → Every (field_tests top n t x y lits) → span_as t y ≤ 12
short_span top n fact_kind x y lits h = omega arith
short_span top n (rule_kind op) x y lits h = omega (arith, leb-true y 8 h.1.1.1.0)
short_span top n query_kind x y lits h = omega arith
short_span top n default_kind x y lits h = omega arith
short_span top n no_kind x y lits h = omega arith

short_lines : (top n k left : ℕ) (p : List ℕ) → lines_ok top n k left p ≡ true → left ≤ 12 * k
unfolding lines_ok span
short_lines top n zero left p e = omega (arith, eqb-true left 0 e)
short_lines top n (suc k) left p e =
    let b = both_true (every (line_tests top n left p)) (lines_ok top n k (left - span p) (drop (span p) p)) e in
    let h = every_true (line_tests top n left p) b.0 in
    omega (
      arith,
      short_span top n (kind (get_or p 1 0)) (get_or p 2 0) (get_or p 3 0) (literals_at p) h.1.1,
      short_lines top n k (left - span p) (drop (span p) p) b.1,
    )

-- four head numbers, 512 conditions, 1,024 entries of 12
abbrev pub most_used : ℕ
most_used = 12804

-- with at most so many lines
pub used_to : (most : ℕ) (a : List ℕ) → sound_to most a ≡ true → used_of a ≤ 516 + 12 * most
used_to most a e =
    let s = parts_to most a e in
    let h = s.head in
    omega (
      arith,
      leb-true (count_of a) most h.1.1.1.1.1.1.1.0,
      leb-true (conditions_of a) 512 h.1.1.1.1.1.1.0,
      short_lines (top_of a) (conditions_of a) (count_of a) (used_of a - first_line a) (drop (first_line a) a) s.lines,
    )

pub used_most : (a : List ℕ) → sound a ≡ true → used_of a ≤ most_used
used_most a e = omega (arith, used_to 1024 a e)

-- as much: k rules of eight literals
abbrev longest : Line
longest =
    let l = positive 0 in
    rule 0 1 M (l ∷ l ∷ l ∷ l ∷ l ∷ l ∷ l ∷ l ∷ [])

longest_rules : ℕ → List Line
longest_rules zero = []
longest_rules (suc k) = longest ∷ longest_rules k

length_rules : (k : ℕ) → length (longest_rules k) ≡ k
unfolding longest_rules
length_rules zero = refl
length_rules (suc k) = ap suc (length_rules k)

length_codes : (k : ℕ) → length (line_codes (longest_rules k)) ≡ 12 * k
unfolding line_codes longest_rules
length_codes zero = omega arith
length_codes (suc k) = omega (arith, length_codes k)

ranged_rules : (k : ℕ) → AllInRange 1 512 (longest_rules k)
unfolding longest_rules
ranged_rules zero = tt
ranged_rules (suc k) = (search rules, ranged_rules k)

no_defaults : (k c : ℕ) → defaults (longest_rules k) c ≡ 0
unfolding longest_rules defaults
no_defaults zero c = refl
no_defaults (suc k) c = no_defaults k c

abbrev rules_page : ℕ → Page
rules_page k = record { top = 1; conditions = 512; lines = longest_rules k }

proper_rules : (k : ℕ) → Proper (rules_page k)
proper_rules k =
    record {
      top_least = omega arith;
      top_most = omega arith;
      conditions_least = omega arith;
      conditions_most = omega arith;
      ranged = ranged_rules k;
      single = λ c. omega (arith, no_defaults k c);
    }

used_rules : (k : ℕ) → used_of (area_of (rules_page k) ++ []) ≡ 516 + 12 * k
unfolding area_of
used_rules k = ap (λ (n : ℕ). 516 + n) (length_codes k)

pub used_attained : (a : List ℕ) × (sound a ≡ true) × (used_of a ≡ most_used)
used_attained = (area_of (rules_page 1024) ++ [], proper_sound (rules_page 1024) [] (proper_rules 1024) (omega (arith, length_rules 1024)), used_rules 1024)
