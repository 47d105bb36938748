-- A pass over the lines that marks what the lines of marked conditions name. Assumes nothing.
use mathlib.Core.Path.{◌≡◌, refl, sym, ◌∙◌, ap}
use mathlib.Core.Logic.{◌⊎◌, inl, inr, ⊎_elim}
use mathlib.Core.Bool.{Bool, true, false, ◌&&◌, ◌||◌, or-true, true≢false, false≢true}
use mathlib.Core.List.{List}
use Prim.Native.Nat.{ℕ, ◌+◌, ◌≤◌, ◌<◌}
use native.Mathlib.Omega.{arith}
use lib.Dec.{eqb}
use lib.ListN.{get_or, drop}
use borrow.Author.Tests.{eqb-true, eq-eqb}
use Rattle.fixpoint.specs.ChaoticIteration.{DependencyClosed}
use Rattle.fixpoint.specs.Sum.{bit, count}
use Rattle.fixpoint.proofs.Sum.{sum_tight}
use Rattle.semantics.specs.Area.{first_line, page_of, line_at, count_of}
use Rattle.semantics.specs.Page.{Line, names, lines_name}
use Rattle.semantics.specs.Table.{member}
use Rattle.semantics.proofs.Proper.{Proper}
use Rattle.semantics.proofs.Readings.{names_inside}
use Rattle.semantics.proofs.Soundness.{both_true}
use Rattle.semantics.proofs.Table.{or_cases}
use Rattle.page.specs.Lines.{Next, line_names}
use Rattle.page.proofs.Naming.{lines_name_lem}
use Rattle.page.specs.Lines.{Scanning}
use Rattle.page.proofs.Scanning.{lines_left, scanning_first, lines_first, scanning_moved, lines_moved, lines_none}
use Rattle.reach.specs.Sets.{Inserts, Swept}
use Rattle.reach.proofs.Inserting.{size_most}
use Rattle.reach.proofs.Visiting.{scanned_head}
use Rattle.page.specs.Solvable.{solvable}
use Rattle.page.proofs.Solvable.{solvable_proper}

bit_eq : (a b : Bool) → bit a ≡ bit b → a ≡ b
bit_eq true true e = refl
bit_eq true false e = absurd (omega arith)
bit_eq false true e = absurd (omega arith)
bit_eq false false e = refl

bit_le : (a b : Bool) → (a ≡ true → b ≡ true) → bit a ≤ bit b
bit_le true b h = rw (h refl) (omega arith)
bit_le false b h = omega arith

module _ {f : ℕ → Bool} (marks marks' : List Bool) {added : ℕ} (h : Inserts f (member marks) (member marks') added) where
  pub inserts_grows : (c : ℕ) → c < 512 → member marks c ≡ true → member marks' c ≡ true
  inserts_grows c l e = h.joins.is c l ∙ rw e

  -- with none new the set is as it was
  same_set : added ≡ 0 → (c : ℕ) → c < 512 → member marks c ≡ member marks' c
  same_set e c l = bit_eq _ _ (sum_tight 512 (λ k. bit (member marks k)) (λ k. bit (member marks' k)) (λ k m. bit_le _ _ (inserts_grows k m)) (omega (arith, h.counted)) c l)

-- the pass stands at `at`, behind k lines, with `new` new conditions
module _ (a : List ℕ) (marks₀ : List Bool) where
  -- what the lines still to come name
  abbrev ahead : ℕ → ℕ → ℕ → ℕ → Bool
  ahead at k x b = lines_name (lines_left a at k) x b

  pub record Sweeping (marks : List Bool) (at k new : ℕ) : Type 0 where
    pub proper : Proper (page_of a)
    pub scan : Scanning a at k
    pub suffix : (x b : ℕ) → ahead at k x b ≡ true → names (page_of a) x b ≡ true
    pub grows : (c : ℕ) → c < 512 → member marks₀ c ≡ true → member marks c ≡ true
    pub inside : (s : ℕ → Bool) → DependencyClosed (page_of a).conditions (names (page_of a)) s → ((c : ℕ) → c < 512 → member marks₀ c ≡ true → s c ≡ true) → (c : ℕ) → c < 512 → member marks c ≡ true → s c ≡ true
    pub counted : count 512 (member marks) ≡ count 512 (member marks₀) + new
    pub settled : new ≡ 0 → (x b : ℕ) → x < 512 → b < 512 → member marks x ≡ true → names (page_of a) x b ≡ true → (member marks b ≡ true) ⊎ (ahead at k x b ≡ true)

  -- so far at most 512 are new
  pub sweeping_few : {marks : List Bool} {at k new : ℕ} → Sweeping marks at k new → new ≤ 512
  sweeping_few {marks = marks} s = omega (arith, s.counted, size_most 512 (member marks))

  small : Proper (page_of a) → {c : ℕ} → c < (page_of a).conditions → c < 512
  small w l = omega (arith, w.conditions_most)

  pub sweeping_first : solvable a ≡ true → {at k : ℕ} → (at ≡ first_line a) × (k ≡ 0) → Sweeping marks₀ at k 0
  sweeping_first ok {at} {k} z =
      rw (z.0, z.1)
      (record {
        proper = solvable_proper a ok;
        scan = scanning_first a ok;
        suffix = λ x b q. ap (λ (ls : List Line). lines_name ls x b) (sym (lines_first a)) ∙ q;
        grows = λ c l q. q;
        inside = λ s d h. h;
        counted = omega arith;
        settled = λ e x b l m p q. inr (ap (λ (ls : List Line). lines_name ls x b) (lines_first a) ∙ q);
      })

  module _ {marks : List Bool} {at k at' k' new : ℕ} (s : Sweeping marks at k new) (l : k < count_of a) (e : Next a at k at' k') where
    abbrev head : ℕ
    head = get_or a at 0

    abbrev line : Line
    line = line_at (drop at a)

    ahead_is : (x b : ℕ) → ahead at k x b ≡ ((eqb head x && line_names line b) || ahead at' k' x b)
    ahead_is x b = ap (λ (ls : List Line). lines_name ls x b) (lines_moved a s.scan l e) ∙ lines_name_lem a at x b (lines_left a at' k')

    suffix_on : (x b : ℕ) → ahead at' k' x b ≡ true → names (page_of a) x b ≡ true
    suffix_on x b q = s.suffix x b (ahead_is x b ∙ rw (q, or-true))

    -- the head is marked
    pub sweeping_next : {marks' : List Bool} {added : ℕ} → member marks head ≡ true → Inserts (line_names line) (member marks) (member marks') added → Sweeping marks' at' k' (new + added)
    sweeping_next {marks'} {added} here h =
        record {
          proper = s.proper;
          scan = scanning_moved a s.scan l e;
          suffix = suffix_on;
          grows = λ c m q. inserts_grows marks marks' h c m (s.grows c m q);
          inside = λ t d g c m q.
              ⊎_elim (λ z. s.inside t d g c m z)
              (λ z. let n = named c z in d head c (scanned_head a s.scan l) (names_inside (page_of a) s.proper head c n) (s.inside t d g head (small s.proper (scanned_head a s.scan l)) here) n)
              (or_cases (member marks c) (line_names line c) (sym (h.joins.is c m) ∙ q));
          counted = omega (arith, s.counted, h.counted);
          settled = λ z x b m o p q.
              ⊎_elim (λ i. inl (inserts_grows marks marks' h b o i))
              (λ i.
              ⊎_elim (λ j. inl (h.joins.is b o ∙ rw ((both_true (eqb head x) (line_names line b) j).1, or-true))) (λ j. inr j)
              (or_cases (eqb head x && line_names line b) (ahead at' k' x b) (sym (ahead_is x b) ∙ i)))
              (s.settled (omega arith) x b m o (same_set marks marks' h (omega arith) x m ∙ p) q);
        }
      where
        named : (c : ℕ) → line_names line c ≡ true → names (page_of a) head c ≡ true
        named c z = s.suffix head c (ahead_is head c ∙ rw (eq-eqb head head refl, z))

    -- it is not
    pub sweeping_skip : member marks head ≡ false → Sweeping marks at' k' new
    sweeping_skip away =
        record {
          proper = s.proper;
          scan = scanning_moved a s.scan l e;
          suffix = suffix_on;
          grows = s.grows;
          inside = s.inside;
          counted = s.counted;
          settled = λ z x b m o p q.
              ⊎_elim inl
              (λ i.
              ⊎_elim
              (λ j. absurd (true≢false (sym p ∙ ap (member marks) (sym (eqb-true head x (both_true (eqb head x) (line_names line b) j).0)) ∙ away)))
              (λ j. inr j)
              (or_cases (eqb head x && line_names line b) (ahead at' k' x b) (sym (ahead_is x b) ∙ i)))
              (s.settled z x b m o p q);
        }

  pub sweeping_last : {marks : List Bool} {at k new : ℕ} → Sweeping marks at k new → count_of a ≤ k → Swept (page_of a) marks₀ marks new
  unfolding lines_name
  sweeping_last {at = at} {k = k} s l =
      record {
        grows = s.grows;
        inside = s.inside;
        counted = s.counted;
        settled = λ e x b m o p q.
            ⊎_elim (λ i. i) (λ i. absurd (false≢true (sym (ap (λ (ls : List Line). lines_name ls x b) (lines_none a at k l)) ∙ i)))
            (s.settled e x b (small s.proper m) (small s.proper o) p q);
      }
