-- The D lines of a page area, collected in a scan, and the D numbers held to them. Assumes nothing.
use mathlib.Core.Path.{◌≡◌, refl, sym, ◌∙◌, ap}
use mathlib.Core.Logic.{◌≢◌, inl, inr}
use mathlib.Core.Bool.{Bool, true, false, ◌||◌, false≢true}
use mathlib.Core.List.{List, ◌∷◌}
use Prim.Native.Nat.{ℕ, zero, suc, ◌+◌, ◌≤◌, ◌<◌}
use native.Mathlib.Decide.{ℕ_discrete}
use native.Mathlib.Omega.{arith}
use lib.Dec.{eqb, leb}
use lib.ListN.{length, get_or, drop}
use borrow.Author.Tests.{eq-eqb, le-leb, leb-true, eqb-true}
use Rattle.fixpoint.specs.Sum.{bit}
use Rattle.semantics.specs.Area.{Kind, fact_kind, rule_kind, query_kind, default_kind, no_kind, kind, line_as, line_at, every, default_tests, defaults_ok, page_of, first_line, default_of, conditions_of, count_of, used_of}
use Rattle.semantics.specs.Body.{unknown_by_default}
use Rattle.semantics.specs.Page.{Line, defaults}
use Rattle.semantics.specs.Table.{all_below}
use Rattle.semantics.proofs.Soundness.{every_true, every_of}
use Rattle.semantics.proofs.Table.{iff_eq, all_true, all_at}
use Rattle.bits.specs.Words.{has}
use Rattle.bits.specs.Sets.{Nobody}
use Rattle.page.specs.Checks.{lines_pass, Collected, Twice, CollectedAt, LinesChecked, number_tells}
use Rattle.page.specs.Lines.{step_at}
use Rattle.page.proofs.Scan.{line_at_lem, default_kind_lem}
use Rattle.page.proofs.Scanning.{lines_left, lines_first, lines_step, lines_none}
use Rattle.page.specs.Solvable.{solvable}
use Rattle.page.proofs.Solvable.{solvable_parts}

-- only 7 is the kind of a D line
kind_seven : (k : ℕ) → kind k ≡ default_kind → k ≡ 7
unfolding kind
kind_seven zero e = let z : ◌≡◌ {A = ℕ} 0 1 = cc in absurd (omega arith)
kind_seven (suc zero) e = let z : ◌≡◌ {A = ℕ} 0 1 = cc in absurd (omega arith)
kind_seven (suc (suc zero)) e = let z : ◌≡◌ {A = ℕ} 0 1 = cc in absurd (omega arith)
kind_seven (suc (suc (suc zero))) e = let z : ◌≡◌ {A = ℕ} 0 1 = cc in absurd (omega arith)
kind_seven (suc (suc (suc (suc zero)))) e = let z : ◌≡◌ {A = ℕ} 0 1 = cc in absurd (omega arith)
kind_seven (suc (suc (suc (suc (suc zero))))) e = let z : ◌≡◌ {A = ℕ} 0 1 = cc in absurd (omega arith)
kind_seven (suc (suc (suc (suc (suc (suc zero)))))) e = let z : ◌≡◌ {A = ℕ} 0 1 = cc in absurd (omega arith)
kind_seven (suc (suc (suc (suc (suc (suc (suc zero))))))) e = refl
kind_seven (suc (suc (suc (suc (suc (suc (suc (suc k)))))))) e = let z : ◌≡◌ {A = ℕ} 0 1 = cc in absurd (omega arith)

-- the D lines of lines that begin with the one at a place
module _ (a : List ℕ) (at c : ℕ) (ls : List Line) where
  pub defaults_on : get_or a (at + 1) 0 ≡ 7 → defaults (line_at (drop at a) ∷ ls) c ≡ bit (eqb (get_or a at 0) c) + defaults ls c
  unfolding defaults
  defaults_on e = rw (line_at_lem a at, default_kind_lem (get_or a (at + 1) 0) e)

  pub defaults_past : get_or a (at + 1) 0 ≢ 7 → defaults (line_at (drop at a) ∷ ls) c ≡ defaults ls c
  unfolding defaults
  defaults_past n = rw (line_at_lem a at) (go (kind (get_or a (at + 1) 0)) (λ e. n (kind_seven (get_or a (at + 1) 0) e)) (get_or a at 0) (get_or a (at + 2) 0) (get_or a (at + 3) 0) _)
    where
      go : (t : Kind) → (t ≡ default_kind → ⊥) → (d x y : ℕ) (lits : List ℕ) → defaults (line_as t d x y lits ∷ ls) c ≡ defaults ls c
      go fact_kind f d x y lits = refl
      go (rule_kind op) f d x y lits = refl
      go query_kind f d x y lits = refl
      go default_kind f d x y lits = absurd (f refl)
      go no_kind f d x y lits = refl

bit_or : (x y : Bool) → (x ≡ true → y ≡ true → ⊥) → bit (x || y) ≡ bit x + bit y
bit_or true true n = absurd (n refl refl)
bit_or true false n = refl
bit_or false y n = omega arith

module _ (a : List ℕ) where
  -- the scan stands at `at`, behind k lines: the set and the lines still to come make up all D lines
  pub record Collecting (at k : ℕ) (seen : List ℕ) : Type 0 where
    pub split : (c : ℕ) → c < 512 → defaults (page_of a).lines c ≡ bit (has seen c) + defaults (lines_left a at k) c

  pub collecting_first : {seen : List ℕ} → Nobody seen → {at k : ℕ} → (at ≡ first_line a) × (k ≡ 0) → Collecting at k seen
  collecting_first {seen} e {at} {k} p =
      rw (p.0, p.1) (record { split = λ c h. rw (e c h) (ap (λ (ls : List Line). defaults ls c) (sym (lines_first a)) ∙ omega arith) })

  module _ {at k : ℕ} {seen : List ℕ} (s : Collecting at k seen) (l : k < count_of a) where
    abbrev left : List Line
    left = lines_left a (at + step_at a at) (k + 1)

    moved : (c : ℕ) → defaults (lines_left a at k) c ≡ defaults (line_at (drop at a) ∷ left) c
    moved c = ap (λ (ls : List Line). defaults ls c) (lines_step a at l)

    -- the set and the lines behind the entry here make up all D lines again
    split_on : {seen' : List ℕ} {first : Bool} → CollectedAt a at seen seen' first → first ≡ true → (c : ℕ) → c < 512 → bit (has seen' c) + defaults left c ≡ bit (has seen c) + defaults (lines_left a at k) c
    split_on {seen'} t r c h =
        elim (ℕ_discrete (get_or a (at + 1) 0) 7) [
          | yes e ↦
              let d = get_or a at 0 in
              let q = t.taken e r in
              let w : eqb c d ≡ eqb d c =
              iff_eq (eqb c d) (eqb d c) (λ e. eq-eqb d c (sym (eqb-true c d e))) (λ e. eq-eqb c d (sym (eqb-true d c e))) in
              let o : bit (has seen' c) ≡ bit (has seen c) + bit (eqb d c) =
              ap bit (q.1.1 c h) ∙ bit_or (has seen c) (eqb c d) (λ x y. false≢true (sym q.0 ∙ ap (has seen) (sym (eqb-true c d y)) ∙ x)) ∙ ap (λ (t : Bool). bit (has seen c) + bit t) w in
              omega (arith, moved c, defaults_on a at c left e, o)
          | no e ↦ omega (arith, moved c, defaults_past a at c left e, ap (λ (x : List ℕ). bit (has x c)) (t.past e).1)
        ]

    -- the entry here is collected, and the scan moves behind it
    pub collecting_next : {at' : ℕ} → at + step_at a at ≡ at' → {seen' : List ℕ} {first : Bool} → CollectedAt a at seen seen' first → first ≡ true → Collecting at' (k + 1) seen'
    collecting_next q t r = rw (← q) (record { split = λ c h. s.split c h ∙ sym (split_on t r c h) })

    -- an entry that is no D line
    pub collecting_past : {at' : ℕ} → at + step_at a at ≡ at' → get_or a (at + 1) 0 ≢ 7 → Collecting at' (k + 1) seen
    collecting_past q n = collecting_next q (record { past = λ f. (refl, refl); taken = λ e. absurd (n e); again = λ e. absurd (false≢true (sym e)) }) refl

    pub collected_twice : conditions_of a ≤ 512 → get_or a at 0 < conditions_of a → {seen' : List ℕ} {first : Bool} → CollectedAt a at seen seen' first → first ≡ false → Twice a
    collected_twice few below t r =
        let d = get_or a at 0 in
        let q = t.again r in
        record {
          condition = d;
          in_page = below;
          two = omega (arith, s.split d (omega (arith, few)), ap bit q.1, moved d, defaults_on a at d left q.0, ap bit (eq-eqb d d refl));
        }

  -- all lines are passed
  collected_all : {at k : ℕ} {seen : List ℕ} → Collecting at k seen → count_of a ≤ k → Collected a seen
  unfolding defaults
  collected_all {at} {k} {seen} s l =
      record { all = λ c h. s.split c h ∙ ap (λ (ls : List Line). bit (has seen c) + defaults ls c) (lines_none a at k l) ∙ omega arith }

  -- what a scan of the lines answers: an entry does not pass, a second D line, or the end
  pub lines_bad : {seen : List ℕ} → false ≡ lines_pass a → LinesChecked a seen false
  lines_bad e = record { collected = λ q. absurd (false≢true q); refused = λ q. inl (sym e) }

  pub lines_twice : {seen : List ℕ} → Twice a → LinesChecked a seen false
  lines_twice t = record { collected = λ q. absurd (false≢true q); refused = λ q. inr t }

  pub lines_end : {at k : ℕ} {seen : List ℕ} → Collecting at k seen → count_of a ≤ k → {passed : Bool} → passed ≡ lines_pass a → LinesChecked a seen passed
  lines_end s l e = record { collected = λ q. (sym e ∙ q, collected_all s l); refused = λ q. inl (sym e ∙ q) }

  -- what the D numbers are held to
  told : defaults_ok a ≡ true → (c : ℕ) → c < conditions_of a → (default_of a c ≤ 1) × (default_of a c ≡ defaults (page_of a).lines c)
  unfolding defaults_ok
  told e c l =
      let h = every_true (default_tests a c) (all_at (conditions_of a) (λ c. every (default_tests a c)) e c l) in
      (leb-true (default_of a c) 1 h.0, eqb-true (default_of a c) (defaults (page_of a).lines c) h.1.0)

  -- a condition with two D lines
  pub defaults_twice : Twice a → false ≡ defaults_ok a
  defaults_twice s =
      iff_eq false (defaults_ok a) (λ e. absurd (false≢true e))
      (λ e. let d = told e s.condition s.in_page in absurd (omega (arith, d.0, d.1, s.two)))

  bit_most : (t : Bool) → bit t ≤ 1
  bit_most true = omega arith
  bit_most false = omega arith

  -- no condition has two: the set decides
  module _ {seen : List ℕ} (few : conditions_of a ≤ 512) (s : Collected a seen) where
    pub numbers_decide : all_below (conditions_of a) (number_tells a seen) ≡ defaults_ok a
    unfolding defaults_ok
    numbers_decide =
        iff_eq (all_below (conditions_of a) (number_tells a seen)) (defaults_ok a)
        (λ e. all_true (conditions_of a) (λ c. every (default_tests a c)) (λ c l.
        let h = eqb-true (default_of a c) (bit (has seen c)) (all_at (conditions_of a) (number_tells a seen) e c l) in
        every_of (default_tests a c) (
          le-leb (default_of a c) 1 (omega (arith, h, bit_most (has seen c))),
          (eq-eqb (default_of a c) (defaults (page_of a).lines c) (h ∙ sym (s.all c (omega (arith, few)))), tt),
        )))
        (λ e. all_true (conditions_of a) (number_tells a seen) (λ c l. eq-eqb (default_of a c) (bit (has seen c)) ((told e c l).1 ∙ s.all c (omega (arith, few)))))

-- the D number of a condition tells whether it is unknown by default
pub default_told : (a : List ℕ) → solvable a ≡ true → (c : ℕ) → c < conditions_of a → eqb (default_of a c) 1 ≡ unknown_by_default (page_of a) c
unfolding unknown_by_default
default_told a e c l = let s = solvable_parts a e in rw (← s.told c l) (go (default_of a c) (s.single c l))
  where
    go : (d : ℕ) → d ≤ 1 → eqb d 1 ≡ leb 1 d
    go zero h = refl
    go (suc zero) h = refl
    go (suc (suc d)) h = absurd (omega arith)

pub numbers_inside : (a : List ℕ) → solvable a ≡ true → first_line a ≤ length a
numbers_inside a e =
    let h = (solvable_parts a e).head in
    omega (arith, leb-true (first_line a) (used_of a) h.1.0, leb-true (used_of a) (length a) h.1.1.0)
