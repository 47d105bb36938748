-- A look at the part at a level: the literals of a rule, one line, and all lines. Assumes nothing.
use mathlib.Core.Path.{◌≡◌, refl, sym, ◌∙◌, subst}
use mathlib.Core.Logic.{◌≢◌, ⊎_elim}
use mathlib.Core.Bool.{Bool, true, false, ◌||◌, true≢false, false≢true}
use mathlib.Core.List.{List}
use Prim.Native.Nat.{ℕ, ◌+◌, ◌/◌, ◌%◌, ◌≤◌, ◌<◌}
use Rattle.std.specs.Prelude.{Result, Ok, Err}
use native.Mathlib.Omega.{arith}
use borrow.Author.Count.{below_more}
use borrow.Author.Tests.{eq-eqb, eqb-true}
use lib.Dec.{eqb}
use lib.ListN.{get_or, drop}
use Rattle.semantics.specs.Area.{page_of, line_at, count_of, first_line}
use Rattle.semantics.specs.Layers.{negates}
use Rattle.semantics.proofs.Layers.{or_left, or_right}
use Rattle.semantics.proofs.Table.{or_cases}
use Rattle.page.specs.Graded.{RuleAt}
use Rattle.page.specs.Lines.{Next, line_names, Scanning}
use Rattle.page.proofs.Naming.{line_rule, line_fact, line_over}
use Rattle.page.proofs.Scanning.{scanning_first, scanning_moved}
use Rattle.layers.specs.Levels.{level_in, inside, RuleInside, RuleLeaves, RuleLooked, LineInside, LineLeaves, LineLooked, PartInside, PartLeaves}
use Rattle.layers.specs.Raising.{line_negates}
use Rattle.layers.proofs.Behind.{Behind, by_names, by_negates, behind_first_lem, behind_next, behind_last, here_related}
use Rattle.layers.proofs.Literals.{code_named, code_negated, named_code, negated_code, line_denies, fact_denies, over_denies}
use Rattle.page.specs.Solvable.{solvable}

or_false : (x y : Bool) → (x || y) ≡ false → (x ≡ false) × (y ≡ false)
or_false true y e = absurd (true≢false e)
or_false false y e = (refl, e)

module _ (a : List ℕ) (at : ℕ) (levels : List ℕ) (level : ℕ) where
  abbrev code : ℕ → ℕ
  code i = get_or a (at + 4 + i) 0

  abbrev y : ℕ
  y = get_or a (at + 3) 0

  abbrev level_at : ℕ → ℕ
  level_at i = level_in levels (code i / 2)

  -- j literals are passed, all of them of conditions inside; `negated` tells whether one of the part is negated
  pub record Looking (negated : Bool) (j : ℕ) : Type 0 where
    pub in_count : j ≤ y
    pub passed : (i : ℕ) → i < j → inside level (level_at i) ≡ true
    pub clear : negated ≡ false → (i : ℕ) → i < j → code i % 2 ≡ 1 → level_at i ≢ level
    pub denied : negated ≡ true → (i : ℕ) × (i < y) × (code i % 2 ≡ 1) × (level_at i ≡ level)

  module _ {negated : Bool} {j : ℕ} (s : Looking negated j) (l : j < y) where
    pub looking_part : level_at j ≡ level → Looking (negated || eqb (code j % 2) 1) (j + 1)
    looking_part e =
        record {
          in_count = omega arith;
          passed = below_more _ j s.passed (or_left (eqb (level_at j) level) (eqb (level_at j) 513) (eq-eqb (level_at j) level e));
          clear = λ q.
              let f = or_false negated (eqb (code j % 2) 1) q in
              below_more _ j (s.clear f.0) (λ m. absurd (false≢true (sym f.1 ∙ eq-eqb (code j % 2) 1 m)));
          denied = λ q. ⊎_elim (λ m. s.denied m) (λ m. (j, l, eqb-true (code j % 2) 1 m, e)) (or_cases negated (eqb (code j % 2) 1) q);
        }

    pub looking_done : level_at j ≢ level → level_at j ≡ 513 → Looking negated (j + 1)
    looking_done h e =
        record {
          in_count = omega arith;
          passed = below_more _ j s.passed (or_right (eqb (level_at j) level) (eqb (level_at j) 513) (eq-eqb (level_at j) 513 e));
          clear = λ q. below_more _ j (s.clear q) (λ m. h);
          denied = s.denied;
        }

  -- all are passed
  pub looking_last : {negated : Bool} {j : ℕ} → Looking negated j → y ≤ j → RuleInside a at levels level negated
  looking_last s l = record { within = λ i m. s.passed i (omega arith); clear = λ e i m. s.clear e i (omega arith); denied = s.denied }

  -- a rule whose head is of the part
  module _ {top n : ℕ} (z : RuleAt top n a at) (h : level_in levels (get_or a at 0) ≡ level) where
    line_inside : {negated : Bool} → RuleInside a at levels level negated → LineInside a at levels level negated
    line_inside s =
        record {
          within = λ g b q.
              let f = named_code a y (at + 4) b z.fits (sym (line_rule a at b z.least z.most) ∙ q) in
              subst (λ (c : ℕ). inside level (level_in levels c) ≡ true) f.2 (s.within f.0 f.1);
          clear = λ l g b q.
              let f = negated_code a y (at + 4) b z.fits (sym (line_denies a at b z.least z.most) ∙ q) in
              subst (λ (c : ℕ). level_in levels c ≢ level) f.3 (s.clear l f.0 f.1 f.2);
          denied = λ l.
              let f = s.denied l in
              (h, (code f.0 / 2, line_denies a at (code f.0 / 2) z.least z.most ∙ code_negated a y (at + 4) f.0 (at + 4 + f.0) z.fits f.1 refl f.2, f.3));
        }

    line_leaves : (r : ℕ) → RuleLeaves a at levels level r → LineLeaves a at levels level r
    line_leaves r f = (h, subst (λ (c : ℕ). line_names (line_at (drop at a)) c ≡ true) f.2 (line_rule a at (code f.0 / 2) z.least z.most ∙ code_named a y (at + 4) f.0 (at + 4 + f.0) z.fits f.1 refl), f.3)

    pub line_looked : (r : Result Bool ℕ) → RuleLooked a at levels level r → LineLooked a at levels level r
    line_looked (Ok negated) s = line_inside s
    line_looked (Err r) s = line_leaves r s

  plain_looked : ((b : ℕ) → line_names (line_at (drop at a)) b ≡ false) → ((b : ℕ) → line_negates (line_at (drop at a)) b ≡ false) → LineInside a at levels level false
  plain_looked f g =
      record {
        within = λ h b q. absurd (false≢true (sym (f b) ∙ q));
        clear = λ l h b q. absurd (false≢true (sym (g b) ∙ q));
        denied = λ l. absurd (false≢true l);
      }

  pub fact_looked : get_or a (at + 1) 0 < 1 → LineInside a at levels level false
  fact_looked l = plain_looked (λ b. line_fact a at b l) (λ b. fact_denies a at b l)

  pub over_looked : 5 < get_or a (at + 1) 0 → LineInside a at levels level false
  over_looked l = plain_looked (λ b. line_over a at b l) (λ b. over_denies a at b l)

-- the look stands at `at`, behind k lines
module _ (a levels : List ℕ) (level : ℕ) where
  pub record Searching (at k : ℕ) (negated : Bool) : Type 0 where
    pub scan : Scanning a at k
    pub within : Behind by_names a (λ x b. level_in levels x ≡ level → inside level (level_in levels b) ≡ true) at k
    pub clear : Behind by_negates a (λ x b. negated ≡ false → level_in levels x ≡ level → level_in levels b ≢ level) at k
    pub denied : negated ≡ true → (u v : ℕ) × (level_in levels u ≡ level) × (negates (page_of a) u v ≡ true) × (level_in levels v ≡ level)

  pub searching_first : solvable a ≡ true → {at k : ℕ} → (at ≡ first_line a) × (k ≡ 0) → Searching at k false
  searching_first ok z =
      record {
        scan = rw (z.0, z.1) (scanning_first a ok);
        within = behind_first_lem by_names a z;
        clear = behind_first_lem by_negates a z;
        denied = λ l. absurd (false≢true l);
      }

  module _ {at k : ℕ} {negated : Bool} (s : Searching at k negated) (l : k < count_of a) {at' k' : ℕ} (e : Next a at k at' k') where
    abbrev head : ℕ
    head = get_or a at 0

    pub searching_next : {more : Bool} → LineInside a at levels level more → Searching at' k' (negated || more)
    searching_next {more} h =
        record {
          scan = scanning_moved a s.scan l e;
          within = behind_next by_names a s.scan s.within l e (λ x b p. p) (λ b p g. h.within g b p);
          clear = behind_next by_negates a s.scan s.clear l e (λ x b p z. p (or_false negated more z).0) (λ b p z g. h.clear (or_false negated more z).1 g b p);
          denied = λ z.
              ⊎_elim (λ p. s.denied p)
              (λ p. let f = h.denied p in (head, f.1.0, f.0, here_related by_negates a s.scan s.clear l e f.1.0 f.1.1, f.1.2))
              (or_cases negated more z);
        }

    pub searching_out : (r : ℕ) → LineLeaves a at levels level r → PartLeaves (page_of a) levels level r
    searching_out r f = (head, f.0, here_related by_names a s.scan s.within l e r f.1, f.2)

  pub searching_last : {at k : ℕ} {negated : Bool} → Searching at k negated → count_of a ≤ k → PartInside (page_of a) levels level negated
  searching_last s l =
      record {
        within = λ u b g q. behind_last by_names a s.within l u b q g;
        clear = λ z u b g q. behind_last by_negates a s.clear l u b q z g;
        denied = s.denied;
      }
