-- The Q lines of a page area: which lines they are, and what they ask. Assumes nothing.
use mathlib.Core.Path.{◌≡◌, refl, sym, ◌∙◌, ap}
use mathlib.Core.Logic.{◌≢◌}
use mathlib.Core.Bool.{true, false≢true}
use mathlib.Core.List.{List, [], ◌∷◌, ◌++◌}
use Prim.Native.Nat.{ℕ, suc, ◌+◌, ◌-◌, ◌≤◌}
use native.Mathlib.Decide.{dec_le, ℕ_discrete}
use native.Mathlib.Omega.{arith}
use lib.ListN.{length, get_or, take, drop}
use borrow.Author.Tests.{lt-ltb}
use Rattle.semantics.specs.Area.{top_of, conditions_of, used_of, every, line_tests, line_at, all_under}
use Rattle.semantics.specs.Output.{Query, queries_of}
use Rattle.semantics.specs.Page.{Line, fact, rule, query, default}
use Rattle.semantics.proofs.Outputs.{queries_append, queries_most}
use Rattle.semantics.proofs.Proper.{AllInRange}
use Rattle.page.proofs.Scan.{line_at_lem, rule_kind_lem, fact_kind_lem, query_kind_lem, fields_none, entry_fits, entry_head, entry_fields, default_kind_lem}
use Rattle.solve.specs.Asked.{reading_of}
use Rattle.solve.specs.Figures.{conditions_asked, asked_by}

-- the Q line at a place, if there is one
module _ (a : List ℕ) (at : ℕ) where
  pub a_query : get_or a (at + 1) 0 ≡ 6 → queries_of (line_at (drop at a) ∷ []) ≡ record { reading = reading_of (get_or a (at + 2) 0); condition = get_or a at 0 } ∷ []
  unfolding queries_of
  a_query e = rw (line_at_lem a at, query_kind_lem (get_or a (at + 1) 0) e)

  module _ (t : every (line_tests (top_of a) (conditions_of a) (used_of a - at) (drop at a)) ≡ true) where
    -- an entry has a kind
    kind_most : get_or a (at + 1) 0 ≤ 7
    kind_most =
        elim (dec_le (get_or a (at + 1) 0) 7) [
          | yes h ↦ h
          | no h ↦ absurd (false≢true (sym (entry_fields (top_of a) (conditions_of a) (used_of a - at) a at (entry_fits (top_of a) (conditions_of a) (used_of a - at) a at t) (entry_head (top_of a) (conditions_of a) (used_of a - at) a at t)
              ∙ fields_none (top_of a) (conditions_of a) (get_or a (at + 1) 0) (get_or a (at + 2) 0) (get_or a (at + 3) 0) (take (get_or a (at + 3) 0) (drop (at + 4) a)) (omega arith)) ∙ t))
        ]

    pub no_query : get_or a (at + 1) 0 ≢ 6 → queries_of (line_at (drop at a) ∷ []) ≡ []
    unfolding queries_of
    no_query n =
        elim (dec_le 1 (get_or a (at + 1) 0)) [
          | yes h ↦
              elim (ℕ_discrete (get_or a (at + 1) 0) 7) [
                | yes d ↦ rw (line_at_lem a at, default_kind_lem (get_or a (at + 1) 0) d)
                | no d ↦ rw (line_at_lem a at, (rule_kind_lem (get_or a (at + 1) 0) h (omega (arith, kind_most))).1)
              ]
          | no h ↦ rw (line_at_lem a at, fact_kind_lem (get_or a (at + 1) 0) (omega arith))
        ]

-- the conditions of several lines, in order
conditions_append : (xs ys : List Query) → conditions_asked (xs ++ ys) ≡ conditions_asked xs ++ conditions_asked ys
unfolding conditions_asked
conditions_append [] ys = refl
conditions_append (x ∷ xs) ys = ap (λ (l : List ℕ). x.condition ∷ l) (conditions_append xs ys)

pub asked_append : (xs ys : List Line) → asked_by (xs ++ ys) ≡ asked_by xs ++ asked_by ys
asked_append xs ys = ap conditions_asked (queries_append xs ys) ∙ conditions_append (queries_of xs) (queries_of ys)

pub conditions_length : (qs : List Query) → length (conditions_asked qs) ≡ length qs
unfolding conditions_asked
conditions_length [] = refl
conditions_length (q ∷ qs) = ap suc (conditions_length qs)

pub asked_most : (ls : List Line) → length (asked_by ls) ≤ length ls
asked_most ls = omega (arith, conditions_length (queries_of ls), queries_most ls)

-- a condition at the place of a query, and the query there
pub condition_at : (xs : List Query) (q : Query) (ys : List Query) → get_or (conditions_asked (xs ++ (q ∷ ys))) (length xs) 0 ≡ q.condition
unfolding conditions_asked
condition_at [] q ys = refl
condition_at (x ∷ xs) q ys = condition_at xs q ys

-- lines in range ask for conditions below C
pub asked_under : (top n : ℕ) (ls : List Line) → AllInRange top n ls → all_under n (asked_by ls) ≡ true
unfolding queries_of conditions_asked all_under
asked_under top n [] w = refl
asked_under top n (fact c l h ∷ ls) w = asked_under top n ls w.1
asked_under top n (rule c v op lits ∷ ls) w = asked_under top n ls w.1
asked_under top n (query r c ∷ ls) w = rw (lt-ltb c n w.0, asked_under top n ls w.1)
asked_under top n (default c ∷ ls) w = asked_under top n ls w.1
