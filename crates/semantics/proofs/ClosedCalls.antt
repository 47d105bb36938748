-- The closed reading as an operation: every call has an outcome, its count of rounds is at most R × top, and its answers lie inside the plain
-- reading. (That it has one outcome: `closed_call_one`.) Assumes nothing.
use mathlib.Core.Path.{◌≡◌, refl, sym, subst}
use mathlib.Core.Bool.{true}
use mathlib.Core.List.{List, [], ◌∷◌, ◌++◌}
use mathlib.Core.Option.{Option, none, some}
use Prim.Native.Nat.{ℕ, ◌*◌, ◌≤◌, ◌<◌}
use lib.Dec.{ltb}
use lib.ListN.{length, get_or, drop}
use borrow.Author.Tests.{ltb-true, not-false}
use Rattle.fixpoint.specs.Interval.{Assign}
use Rattle.fixpoint.specs.KnowledgeOrder.{Under}
use Rattle.fixpoint.specs.WellFounded.{closed}
use Rattle.semantics.specs.Area.{sound, page_of, all_under}
use Rattle.semantics.specs.Body.{T, unknown_by_default}
use Rattle.semantics.specs.Call.{first_of}
use Rattle.semantics.specs.Operation.{closed_causes, scratch_length, zeros, ends, Closing, refused_closing, closed_after, ClosedAnswers, ClosedAs, ClosedOf}
use Rattle.semantics.specs.Reading.{IsPlain, closure, count_r}
use Rattle.semantics.proofs.Invariant.{no_cause_holds}
use Rattle.semantics.proofs.Proper.{Proper}
use Rattle.semantics.proofs.Readings.{closed_is, closed_inside}
use Rattle.semantics.proofs.RoundCounts.{rounds_exist, rounds_most}
use Rattle.semantics.proofs.Soundness.{both_true, sound_proper}

-- the answers, low and high per query in list order, lie inside the intervals of P
abbrev pub AllInside : Assign → List ℕ → List ℕ → Type 0
AllInside P [] ws = Unit {0}
AllInside P (q ∷ qs) ws = ((P q).low ≤ get_or ws 0 0) × (get_or ws 1 0 ≤ (P q).high) × AllInside P qs (drop 2 ws)

ends_inside : (n : ℕ) (P C : Assign) → ((c : ℕ) → c < n → Under (P c) (C c)) → (qs rest : List ℕ) → all_under n qs ≡ true → AllInside P qs (ends C qs ++ rest)
unfolding all_under
ends_inside n P C h [] rest u = tt
ends_inside n P C h (q ∷ qs) rest u =
    let b = both_true (ltb q n) (all_under n qs) u in
    let i = h q (ltb-true q n b.0) in
    (i.lows, i.highs, ends_inside n P C h qs rest b.1)

module _ (a qs s w : List ℕ) where
  proper : first_of (closed_causes a qs s w) ≡ none → Proper (page_of a)
  proper e = sound_proper a (not-false (sound a) (no_cause_holds (closed_causes a qs s w) e).0)

  under : first_of (closed_causes a qs s w) ≡ none → all_under (page_of a).conditions qs ≡ true
  under e = not-false (all_under (page_of a).conditions qs) (no_cause_holds (closed_causes a qs s w) e).1.1.0

  -- there is an outcome
  pub closed_call_exists : (answer : Closing) × (s' : List ℕ) × (w' : List ℕ) × ClosedOf answer a qs s w s' w'
  unfolding ClosedOf
  closed_call_exists = go (first_of (closed_causes a qs s w)) refl
    where
      go : (o : Option ℕ) → first_of (closed_causes a qs s w) ≡ o → (answer : Closing) × (s' : List ℕ) × (w' : List ℕ) × ClosedAs o answer a qs s w s' w'
      go (some k) e = (refused_closing k, s, w, (refl, refl, refl))
      go none e =
          let r = rounds_exist (page_of a) (proper e) qs in
          let C = closed (page_of a).conditions (page_of a).top (T (page_of a)) (unknown_by_default (page_of a)) in (
            closed_after r.0,
            zeros (scratch_length (page_of a)) ++ drop (scratch_length (page_of a)) s,
            ends C qs ++ drop (2 * length qs) w,
            record {
              reading = C;
              is_closed = closed_is (page_of a) (proper e);
              rounds = r.0;
              is_rounds = r.1;
              told = refl;
              written = refl;
              cleared = refl;
            },
          )

  module _ (e : first_of (closed_causes a qs s w) ≡ none) (answer : Closing) (s' w' : List ℕ) (h : ClosedOf answer a qs s w s' w') where
    accepted : ClosedAnswers answer a qs s w s' w'
    unfolding ClosedOf
    accepted = rw e at h

    -- "That count is at most R × top."
    pub closed_call_most : (k : ℕ) × (answer ≡ closed_after k) × (k ≤ count_r (page_of a) (closure (page_of a) qs) * (page_of a).top)
    closed_call_most = (accepted.rounds, accepted.told, rounds_most (page_of a) (proper e) qs accepted.is_rounds)

    -- "the closed interval lies inside the plain interval", for every query
    pub closed_call_inside : {P : Assign} → IsPlain (page_of a) P → AllInside P qs w'
    closed_call_inside {P} i =
        subst (AllInside P qs) (sym accepted.written)
        (ends_inside (page_of a).conditions P accepted.reading (λ c l. closed_inside (page_of a) (proper e) i accepted.is_closed c l) qs (drop (2 * length qs) w) (under e))
