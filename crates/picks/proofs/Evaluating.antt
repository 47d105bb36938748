-- An evaluation on the table and the two sets, in the code's own terms. Assumes nothing.
use mathlib.Core.Path.{◌≡◌, sym, ◌∙◌, ap}
use mathlib.Core.Logic.{◌≢◌}
use mathlib.Core.Bool.{Bool, true, false, not, ◌&&◌, ◌||◌, or-false, and-false}
use mathlib.Core.List.{List}
use Prim.Native.Nat.{ℕ, ◌+◌, ◌*◌, ◌-◌, ◌≤◌, ◌<◌}
use native.Mathlib.Decide.{ℕ_discrete, dec_le}
use native.Mathlib.Omega.{arith}
use lib.Dec.{eqb}
use lib.ListN.{length, get_or, set, length-set, get_or-eq_default}
use lib.Seq.{get_or-set_same, get_or-set_other}
use borrow.Author.Tests.{not-false}
use Rattle.fixpoint.specs.Interval.{Interval, same, Within, Assign}
use Rattle.fixpoint.proofs.Evaluation.{same_true}
use Rattle.semantics.specs.Area.{page_of, top_of, conditions_of}
use Rattle.semantics.specs.Body.{T}
use Rattle.semantics.specs.Grade.{lower}
use Rattle.semantics.specs.Page.{names}
use Rattle.semantics.specs.Table.{table, member, interval_of}
use Rattle.semantics.specs.Worklist.{Worklist, changes, waiting_after, evaluated}
use Rattle.semantics.proofs.Table.{length_from, get_d_table}
use Rattle.bits.specs.Words.{has, Removed}
use Rattle.value.specs.Table.{end_of}
use Rattle.value.proofs.Tables.{table_at_lem}
use Rattle.ends.specs.Mirror.{Mirrored}
use Rattle.ends.proofs.Mirrors.{high_table, both_grades}
use Rattle.ends.proofs.Stores.{table_agrees, table_stored}
use Rattle.body.specs.Body.{Body}
use Rattle.reach.specs.Sets.{Joins}
use Rattle.picks.specs.Book.{SetIs, Holds}
use Rattle.picks.specs.Figures.{table_at}

module _ (a : List ℕ) {m : List Bool} {b : Worklist} {reached waiting values : List ℕ} (h : Holds a m b reached waiting values) where
  abbrev I : Assign
  I = interval_of b.intervals

  -- every number of the table is a grade, of the high ends too
  pub holds_grades : Mirrored (top_of a) (conditions_of a) values
  holds_grades = both_grades (top_of a) (conditions_of a) I values h.long h.grades h.table

  -- what the table holds
  pub holds_at : (c : ℕ) → c < conditions_of a → table_at (top_of a) values c ≡ interval_of b.intervals c
  holds_at c l =
      let s = table_at_lem lower (top_of a) (conditions_of a) I values h.table c l in
      let e : top_of a - get_or values (2 * c + 1) 0 ≡ (I c).high = omega (arith, s.negative, (h.grades c l).high_in) in
      λ i. record { low = s.plain i; high = e i }

  module _ (c : ℕ) (l : c < conditions_of a) {p q : ℕ} (v : Body a values c p q) where
    abbrev new : Interval
    new = record { low = p; high = q }

    value : new ≡ T (page_of a) I c
    value = v.is I h.table (high_table (top_of a) (conditions_of a) I values h.long h.grades h.table)

    -- the intervals after it
    here : interval_of (evaluated (page_of a) m b c).intervals c ≡ new
    unfolding evaluated
    here = get_or-set_same b.intervals c _ _ (omega (arith, h.pairs)) ∙ sym value

    there : (d : ℕ) → d ≢ c → interval_of (evaluated (page_of a) m b c).intervals d ≡ I d
    unfolding evaluated
    there d n = get_or-set_other b.intervals c d _ _ n

    grades_after : (d : ℕ) → d < conditions_of a → Within (top_of a) (interval_of (evaluated (page_of a) m b c).intervals d)
    grades_after d k =
        elim (ℕ_discrete d c) [
          | yes e ↦ rw e (rw here (record { low_in = v.low_in; high_in = v.high_in }))
          | no e ↦ rw (there d e) (h.grades d k)
        ]

    pairs_after : length (evaluated (page_of a) m b c).intervals ≡ conditions_of a
    unfolding evaluated
    pairs_after = length-set b.intervals c _ ∙ h.pairs

    -- who waits after it
    abbrev said : ℕ → Bool
    said k = (member b.waiting k && not (eqb k c)) || (changes (page_of a) b c && (member m k && names (page_of a) k c))

    beyond : (k : ℕ) → conditions_of a ≤ k → member (evaluated (page_of a) m b c).waiting k ≡ false
    unfolding evaluated waiting_after page_of
    beyond k g = get_or-eq_default (table (conditions_of a) said) false (omega (arith, length_from (conditions_of a) 0 said))

    set_after : (few : conditions_of a ≤ 512) {t : Bool} → t ≡ changes (page_of a) b c → (waiting' : List ℕ)
        → ((k : ℕ) → k < 512 → has waiting' k ≡ ((has waiting k && not (eqb k c)) || (t && (has reached k && names (page_of a) k c))))
        → SetIs (conditions_of a) (evaluated (page_of a) m b c).waiting waiting'
    set_after few {t} e waiting' w = record { is = λ k j. w k j ∙ read k j ∙ sym (after k); inside = beyond }
      where
        read : (k : ℕ) → k < 512 → ((has waiting k && not (eqb k c)) || (t && (has reached k && names (page_of a) k c))) ≡ said k
        read k j = rw (h.waiting_set.is k j, h.reached_set.is k j, e)

        after : (k : ℕ) → member (evaluated (page_of a) m b c).waiting k ≡ said k
        after k =
            elim (dec_le (conditions_of a) k) [
              | yes g ↦ beyond k g ∙ sym (rw (h.waiting_set.inside k g, h.reached_set.inside k g) (and-false (changes (page_of a) b c)))
              | no g ↦ unfold evaluated waiting_after page_of in get_d_table (conditions_of a) said k false (omega arith)
            ]

    -- the code's test, where [x; y] is what c held
    module _ {x y : ℕ} (held : record { low = x; high = y } ≡ table_at (top_of a) values c) {t : Bool} (d : t ≡ not (same (record { low = x; high = y }) (record { low = p; high = q }))) where
      changes_is : t ≡ changes (page_of a) b c
      unfolding changes
      changes_is = d ∙ rw (held, holds_at c l, value)

      module _ (few : conditions_of a ≤ 512) (waiting₁ : List ℕ) (r : Removed c waiting waiting₁) where
        -- c changes: its literals are stored, and its dependants wait
        pub holds_changed : t ≡ true → {waiting₂ : List ℕ} → Joins (λ k. has reached k && names (page_of a) k c) (has waiting₁) (has waiting₂)
            → Holds a m (evaluated (page_of a) m b c) reached waiting₂ (set (set values (2 * c) p) (2 * c + 1) (top_of a - q))
        holds_changed e {waiting₂} j =
            record {
              reached_set = h.reached_set;
              waiting_set = set_after few (sym e ∙ changes_is) waiting₂ (λ k g. j.is k g ∙ ap (λ (z : Bool). z || (has reached k && names (page_of a) k c)) (r.1 k g));
              long = omega (arith, h.long, length-set (set values (2 * c) p) (2 * c + 1) (top_of a - q), length-set values (2 * c) p);
              table = table_stored lower (top_of a) (conditions_of a) I (interval_of (evaluated (page_of a) m b c).intervals) values c (λ k g n. there k n) l h.long h.table
                  (ap (end_of lower) (sym here)) (ap (λ (i : Interval). top_of a - i.high) (sym here));
              grades = grades_after;
              pairs = pairs_after;
            }

        -- it does not change
        pub holds_same : t ≡ false → Holds a m (evaluated (page_of a) m b c) reached waiting₁ values
        holds_same e =
            record {
              reached_set = h.reached_set;
              waiting_set = set_after few (sym e ∙ changes_is) waiting₁ (λ k g. r.1 k g ∙ sym (or-false (has waiting k && not (eqb k c))));
              long = h.long;
              table = table_agrees lower (top_of a) (conditions_of a) I (interval_of (evaluated (page_of a) m b c).intervals) values as_held h.table;
              grades = grades_after;
              pairs = pairs_after;
            }
          where
            equal : record { low = x; high = y } ≡ new
            equal = same_true _ _ (not-false _ (sym d ∙ e))

            as_held : (k : ℕ) → k < conditions_of a → interval_of (evaluated (page_of a) m b c).intervals k ≡ I k
            as_held k g =
                elim (ℕ_discrete k c) [
                  | yes n ↦ rw n (here ∙ sym equal ∙ held ∙ holds_at c l)
                  | no n ↦ there k n
                ]
