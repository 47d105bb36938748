-- The facts of a trial, condition by condition. Assumes nothing.
use mathlib.Core.Path.{◌≡◌, refl, sym, ◌∙◌, ap}
use mathlib.Core.List.{List, [], ◌∷◌, ◌++◌, append_assoc, append-nil}
use mathlib.Core.Option.{Option, none, some}
use Prim.Native.Nat.{ℕ, suc, ◌+◌, ◌*◌, ◌-◌, ◌≤◌, ◌<◌}
use native.Mathlib.Numerals.{add-one}
use native.Mathlib.Omega.{arith}
use lib.ListN.{length}
use Rattle.fixpoint.specs.Interval.{Interval}
use Rattle.semantics.specs.Page.{Line, fact}
use Rattle.semantics.specs.Area.{line_codes}
use Rattle.semantics.specs.Trials.{TrialLine, tried, fact_if, tried_facts}
use Rattle.change.specs.Written.{PutsEntry, PutsLines, FactsFit, FactsWrote}
use Rattle.change.specs.declared.Entries.{Entries}
use Rattle.change.proofs.Lines.{lines_none, lines_one, lines_length_lem, lines_as, puts_then, puts_as}

-- one condition
module _ (t : Entries) (c : ℕ) {o : Option Interval} where
  pub fact_none : none ≡ o → t.end ≤ length t.area.now → PutsLines t (fact_if c o) t
  fact_none e l = record { same = refl; wrote = lines_as (ap (fact_if c) e) (lines_none t.area.now t.end t.count l) }

  pub fact_one : {low high : ℕ} {t' : Entries} → some (record { low = low; high = high }) ≡ o → PutsEntry t (c ∷ 0 ∷ low ∷ high ∷ []) t'
      → PutsLines t (fact_if c o) t'
  fact_one {low} {high} e p = record { same = p.same; wrote = lines_as (ap (fact_if c) e) (lines_one (fact c low high) p.wrote p.counted) }

fact_short : (c : ℕ) (o : Option Interval) → (length (fact_if c o) ≤ 1) × (length (line_codes (fact_if c o)) ≤ 4)
unfolding line_codes
fact_short c none = (omega arith, omega arith)
fact_short c (some p) = (omega arith, omega arith)

module _ (ts : List TrialLine) (n : ℕ) (t₀ : Entries) where
  -- the facts of the conditions below c are written
  pub record Facts (t : Entries) (c : ℕ) : Type 0 where
    pub facts : List Line
    pub rest : tried_facts ts n 0 ≡ facts ++ tried_facts ts (n - c) c
    pub puts : PutsLines t₀ facts t
    pub size : length t.area.now ≡ length t₀.area.now
    pub short : t.end ≤ t₀.end + 4 * c
    pub few : t.count ≤ t₀.count + c

  pub facts_first : FactsFit n t₀ → Facts t₀ 0
  facts_first f =
      let e : n - 0 ≡ n = omega arith in
      record {
        facts = [];
        rest = rw e;
        puts = record { same = refl; wrote = lines_none t₀.area.now t₀.end t₀.count (omega (arith, f.room)) };
        size = refl;
        short = omega arith;
        few = omega arith;
      }

  module _ {t : Entries} {c : ℕ} (s : Facts t c) where
    pub facts_next : c < n → {t' : Entries} → PutsLines t (fact_if c (tried ts c)) t' → Facts t' (c + 1)
    unfolding tried_facts
    facts_next l {t'} p =
        let w = p.wrote in
        let short = fact_short c (tried ts c) in
        let e : n - c ≡ suc (n - (c + 1)) = omega arith in
        record {
          facts = s.facts ++ fact_if c (tried ts c);
          rest = s.rest ∙ ap (λ (m : ℕ). s.facts ++ tried_facts ts m c) e
              ∙ sym (append_assoc s.facts (fact_if c (tried ts c)) (tried_facts ts (n - (c + 1)) (suc c)))
              ∙ ap (λ (m : ℕ). (s.facts ++ fact_if c (tried ts c)) ++ tried_facts ts (n - (c + 1)) m) (sym (add-one c));
          puts = puts_then s.puts p;
          size = lines_length_lem w ∙ s.size;
          short = omega (arith, s.short, w.codes.behind, short.1);
          few = omega (arith, s.few, w.counted, short.0);
        }

    pub facts_done : c ≡ n → FactsWrote ts n t₀ t
    unfolding tried_facts
    facts_done l =
        let e : n - c ≡ 0 = omega arith in
        record {
          puts = puts_as (sym (s.rest ∙ ap (λ (m : ℕ). s.facts ++ tried_facts ts m c) e ∙ append-nil s.facts)) s.puts;
          short = omega (arith, s.short);
        }
