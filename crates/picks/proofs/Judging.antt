-- The picks in turn from the opening, and what the check answers, in the code's own terms. Assumes nothing.
use mathlib.Core.Path.{◌≡◌, refl, sym, ◌∙◌, ap, subst}
use mathlib.Core.Bool.{Bool, true, false, ◌&&◌}
use mathlib.Core.List.{List}
use mathlib.Core.Option.{none, some}
use Prim.Native.Nat.{ℕ, ◌+◌, ◌*◌, ◌-◌, ◌≤◌, ◌<◌}
use native.Mathlib.Decide.{ℕ_discrete, dec_le}
use native.Mathlib.Numerals.{add-one}
use native.Mathlib.Omega.{arith}
use lib.Dec.{ltb, leb}
use lib.ListN.{length, get_or, take, replicate, length-replicate, get_or-replicate, get_or-eq_default}
use lib.Seq.{take_all}
use borrow.Author.Tests.{ltb-true, leb-true, not-false}
use Rattle.fixpoint.specs.KnowledgeOrder.{unknown}
use Rattle.semantics.specs.Area.{sound, page_of, top_of, conditions_of, all_under}
use Rattle.semantics.specs.Call.{first_of}
use Rattle.semantics.specs.Demand.{perform_from}
use Rattle.semantics.specs.Grade.{lower}
use Rattle.semantics.specs.Operation.{query_causes, ends}
use Rattle.semantics.specs.Picks.{book_after, pick_waits, AllWait, PicksAnswer, refused_queries, not_waiting, not_at_rest, wrong_figures, accepted_picks, PicksOf}
use Rattle.semantics.specs.Reading.{closure}
use Rattle.semantics.specs.Table.{member, interval_of, all_unknown}
use Rattle.semantics.specs.Worklist.{Worklist, start, rest, status}
use Rattle.semantics.proofs.Closure.{closure_length}
use Rattle.semantics.proofs.Demand.{under_listed}
use Rattle.semantics.proofs.Invariant.{no_cause_holds}
use Rattle.semantics.proofs.Keeps.{ends_listed}
use Rattle.semantics.proofs.Picks.{book_next, waits_spent, none_rests, picks_proper, picks_inside, picks_in_time, plain_figures}
use Rattle.semantics.proofs.Soundness.{both_true}
use Rattle.semantics.proofs.Table.{length_from, get_d_table}
use Rattle.bits.specs.Words.{has}
use Rattle.bits.specs.Sets.{Nobody}
use Rattle.value.specs.Table.{Grades}
use Rattle.value.proofs.Tables.{table_of_lem}
use Rattle.reach.specs.Sets.{ClosureSet}
use Rattle.reach.specs.Queries.{list_causes}
use Rattle.reach.proofs.Bounds.{bound_few}
use Rattle.reach.proofs.Passing.{some_has}
use Rattle.picks.specs.Answer.{Judged}
use Rattle.picks.specs.Book.{SetIs, Holds, Evaluates}
use Rattle.picks.specs.Figures.{table_at, Compared}
use Rattle.picks.proofs.Evaluating.{holds_grades, holds_at}

-- i picks are evaluated, each of them waited
pub record Judging (a qs picks reached waiting values : List ℕ) (i : ℕ) : Type 0 where
  pub inside : i ≤ length picks
  pub waited : (j : ℕ) → j < i → pick_waits (page_of a) qs picks j ≡ true
  pub size : length values ≡ 1024
  pub holds : Holds a (closure (page_of a) qs) (book_after (page_of a) qs (take i picks)) reached waiting values

module _ (a qs : List ℕ) (e : first_of (query_causes a qs) ≡ none) where
  few : conditions_of a ≤ 512
  unfolding page_of
  few = (picks_proper a qs e).conditions_most

  pub queries_few : length qs ≤ 16
  queries_few = leb-true (length qs) 16 (both_true (leb 1 (length qs)) (leb (length qs) 16) (not-false _ (no_cause_holds (query_causes a qs) e).1.0)).1

  pub queries_inside : all_under (conditions_of a) qs ≡ true
  unfolding page_of
  queries_inside = picks_inside a qs e

  -- the opening: every condition holds [0;top], and exactly the reached ones wait
  module _ {reached : List ℕ} (s : ClosureSet (page_of a) qs reached) where
    reached_is : SetIs (conditions_of a) (closure (page_of a) qs) reached
    unfolding page_of
    reached_is =
        record {
          is = s.same;
          inside = λ c l. get_or-eq_default (closure (page_of a) qs) false (omega (arith, closure_length (page_of a) qs));
        }

    unknown_at : (c : ℕ) → c < conditions_of a → interval_of (start (page_of a) (closure (page_of a) qs)).intervals c ≡ unknown (top_of a)
    unfolding start all_unknown page_of
    unknown_at c l = get_d_table (conditions_of a) (λ d. unknown (top_of a)) c _ l

    pub holds_first : Holds a (closure (page_of a) qs) (start (page_of a) (closure (page_of a) qs)) reached reached (replicate 1024 0)
    holds_first =
        record {
          reached_set = reached_is;
          waiting_set = unfold start in reached_is;
          long = omega (arith, few, length-replicate {A = ℕ} 1024 0);
          table = table_of_lem lower (top_of a) (conditions_of a) (interval_of (start (page_of a) (closure (page_of a) qs)).intervals) (replicate 1024 0)
              (λ c l. record {
                plain = get_or-replicate 1024 (2 * c) 0 0 (omega (arith, few)) ∙ sym (ap (λ p. p.low) (unknown_at c l));
                negative = get_or-replicate 1024 (2 * c + 1) 0 0 (omega (arith, few)) ∙ (omega arith) ∙ sym (ap (λ p. top_of a - p.high) (unknown_at c l));
              });
          grades = λ c l. rw (unknown_at c l) (record { low_in = omega arith; high_in = omega arith });
          pairs = unfold start all_unknown page_of in length_from (conditions_of a) 0 (λ d. unknown (top_of a));
        }

  module _ (picks : List ℕ) where
    pub judging_first : {reached : List ℕ} → ClosureSet (page_of a) qs reached → Judging a qs picks reached reached (replicate 1024 0) 0
    judging_first s = record { inside = omega arith; waited = λ j l. absurd (omega arith); size = length-replicate {A = ℕ} 1024 0; holds = unfold perform_from in holds_first s }

    module _ {reached waiting values : List ℕ} {i : ℕ} (s : Judging a qs picks reached waiting values i) where
      abbrev b : Worklist
      b = book_after (page_of a) qs (take i picks)

      -- the place of the next pick fits 32 bits
      pub judging_small : i ≤ 512 + 200 * (512 * 512)
      judging_small =
          omega (arith, picks_in_time a qs e picks i s.inside s.waited, bound_few (page_of a) (picks_proper a qs e) (closure (page_of a) qs))

      -- the code's test is the definition's
      pick_told_lem : (ltb (get_or picks i 0) (conditions_of a) && has waiting (get_or picks i 0)) ≡ pick_waits (page_of a) qs picks i
      unfolding pick_waits page_of
      pick_told_lem = go (ltb (get_or picks i 0) (conditions_of a)) refl
        where
          go : (t : Bool) → ltb (get_or picks i 0) (conditions_of a) ≡ t → (t && has waiting (get_or picks i 0)) ≡ (t && member b.waiting (get_or picks i 0))
          go true q = s.holds.waiting_set.is (get_or picks i 0) (omega (arith, ltb-true (get_or picks i 0) (conditions_of a) q, few))
          go false q = refl

      module _ (l : i < length picks) {t : Bool} (told : t ≡ (ltb (get_or picks i 0) (conditions_of a) && has waiting (get_or picks i 0))) where
        pub judged_not_waiting : t ≡ false → (figures : List ℕ) → Judged (not_waiting (i + 1)) (page_of a) qs picks figures
        judged_not_waiting q figures =
            record { is = record { before = i; place_is = refl; inside = l; not_waiting = sym pick_told_lem ∙ sym told ∙ q; others_wait = s.waited } }

        waits_now : t ≡ true → pick_waits (page_of a) qs picks i ≡ true
        waits_now q = sym pick_told_lem ∙ sym told ∙ q

        pub judging_next : t ≡ true → {waiting' values' : List ℕ} → Evaluates a (get_or picks i 0) reached waiting values waiting' values' → Judging a qs picks reached waiting' values' (i + 1)
        judging_next q {waiting'} {values'} v =
            record {
              inside = omega arith;
              waited = λ j g. elim (ℕ_discrete j i) [
                | yes n ↦ ap (pick_waits (page_of a) qs picks) n ∙ waits_now q
                | no n ↦ s.waited j (omega arith)
              ];
              size = v.size ∙ s.size;
              holds = subst (λ (x : Worklist). Holds a (closure (page_of a) qs) x reached waiting' values')
                  (sym (book_next (page_of a) qs picks i l (waits_now q)) ∙ ap (λ (k : ℕ). book_after (page_of a) qs (take k picks)) (sym (add-one i)))
                  (v.kept (closure (page_of a) qs) b s.holds);
            }

      -- after the last pick
      module _ (l : length picks ≤ i) where
        all_wait : AllWait (page_of a) qs picks
        all_wait j g = s.waited j (omega arith)

        last : b ≡ book_after (page_of a) qs picks
        last = ap (book_after (page_of a) qs) (take_all i picks l)

        pub judged_not_at_rest : (Nobody waiting → ⊥) → (figures : List ℕ) → Judged not_at_rest (page_of a) qs picks figures
        judged_not_at_rest n figures =
            let c = some_has 512 (has waiting) n in
            record { is = (all_wait, ap status (sym last) ∙ waits_spent b c.0 (sym (s.holds.waiting_set.is c.0 c.1) ∙ c.2)) }

        module _ (none : Nobody waiting) where
          none_waits : (c : ℕ) → member b.waiting c ≡ false
          none_waits c =
              elim (dec_le (conditions_of a) c) [
                | yes k ↦ s.holds.waiting_set.inside c k
                | no k ↦ sym (s.holds.waiting_set.is c (omega (arith, few))) ∙ none c (omega (arith, few))
              ]

          at_rest : status (book_after (page_of a) qs picks) ≡ rest
          at_rest = ap status (sym last) ∙ none_rests b none_waits

          -- the figures of what is held
          held : ends (table_at (top_of a) values) qs ≡ ends (interval_of (book_after (page_of a) qs picks).intervals) qs
          held =
              ends_listed (table_at (top_of a) values) (interval_of b.intervals) qs (λ c k. holds_at a s.holds c (under_listed (conditions_of a) qs queries_inside c k))
              ∙ ap (λ (x : Worklist). ends (interval_of x.intervals) qs) last

          module _ {figures : List ℕ} {t : Bool} (told : Compared (top_of a) qs figures values t) where
            pub judged_wrong : t ≡ false → Judged wrong_figures (page_of a) qs picks figures
            judged_wrong q = record { is = (all_wait, at_rest, λ f. told.differ q ((plain_figures a qs e picks figures at_rest).1 f ∙ sym held)) }

            pub judged_accepted : t ≡ true → Judged accepted_picks (page_of a) qs picks figures
            judged_accepted q = record { is = (all_wait, at_rest, (plain_figures a qs e picks figures at_rest).0 (told.equal q ∙ held)) }

      pub judging_grades : Grades (top_of a) (conditions_of a) values
      judging_grades = (holds_grades a s.holds).low

-- the check: the queries are refused, or the picks are judged
module _ (a qs picks figures : List ℕ) where
  pub check_10 : sound a ≡ false → PicksOf (refused_queries 10) a qs picks figures
  unfolding PicksOf
  check_10 e = rw e

  module _ (ok : sound a ≡ true) where
    causes_are : first_of (query_causes a qs) ≡ first_of (list_causes (conditions_of a) qs)
    unfolding page_of
    causes_are = rw ok

    pub check_refused : {k : ℕ} → some k ≡ first_of (list_causes (conditions_of a) qs) → PicksOf (refused_queries k) a qs picks figures
    unfolding PicksOf
    check_refused e = rw (causes_are ∙ sym e)

    module _ (fine : none ≡ first_of (list_causes (conditions_of a) qs)) where
      pub check_none : first_of (query_causes a qs) ≡ none
      check_none = causes_are ∙ sym fine

      pub check_judged : {answer : PicksAnswer} → Judged answer (page_of a) qs picks figures → PicksOf answer a qs picks figures
      unfolding PicksOf
      check_judged w = rw check_none w.is
