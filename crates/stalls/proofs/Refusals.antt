-- What each call on the shared area answers and leaves, cause by cause, in the order of the code's tests. Assumes nothing.
use mathlib.Core.Path.{◌≡◌, refl}
use mathlib.Core.Bool.{true, false}
use mathlib.Core.List.{List}
use Prim.Native.Nat.{ℕ, ◌*◌, ◌≤◌, ◌<◌}
use lib.ListN.{length}
use borrow.Author.Tests.{le-leb, lt-leb}
use Rattle.semantics.specs.Area.{sound, page_of, conditions_of}
use Rattle.semantics.specs.Call.{evaluate, refused}
use Rattle.semantics.specs.Operation.{refused_opening, open_of, operation}
use Rattle.semantics.specs.RunArea.{run_sound}
use Rattle.semantics.specs.Stalls.{Stall, first, second, shared_length, part_of, with_part, open_stall, evaluate_stall, refused_turn, turn_of}
use Rattle.refusal.specs.declared.Refusal.TheVariants.{PageNotSound, SharedShort}
use Rattle.run.specs.Answers.{Answered}
use Rattle.run.proofs.Answering.{answered}
use Rattle.stalls.specs.Checks.{Refuses}

-- 10
module _ (a area : List ℕ) (e : sound a ≡ false) where
  pub open_10 : (s : Stall) (qs : List ℕ) → (refused_opening 10 ≡ (open_stall a s qs area).answer) × (area ≡ (open_stall a s qs area).run)
  unfolding open_stall
  open_10 s qs = rw e (refl, refl)

  pub evaluate_10 : (s : Stall) (c : ℕ) → Answered (evaluate_stall a s area c) (refused 10) area
  unfolding evaluate_stall
  evaluate_10 s c = answered (rw e refl)

  pub turn_10 : (b : ℕ) → (refused_turn 10 0 ≡ (turn_of a area b).answer) × (area ≡ (turn_of a area b).area)
  unfolding turn_of
  turn_10 b = rw e (refl, refl)

module _ (a area : List ℕ) (ok : sound a ≡ true) where
  -- 60
  module _ (l : length area < 6 * conditions_of a) where
    pub open_60 : (s : Stall) (qs : List ℕ) → (refused_opening 60 ≡ (open_stall a s qs area).answer) × (area ≡ (open_stall a s qs area).run)
    unfolding open_stall page_of
    open_60 s qs = rw (ok, lt-leb (6 * conditions_of a) (length area) l) (refl, refl)

    pub evaluate_60 : (s : Stall) (c : ℕ) → Answered (evaluate_stall a s area c) (refused 60) area
    unfolding evaluate_stall page_of
    evaluate_60 s c = answered (rw (ok, lt-leb (6 * conditions_of a) (length area) l) refl)

    pub turn_60 : (b : ℕ) → (refused_turn 60 0 ≡ (turn_of a area b).answer) × (area ≡ (turn_of a area b).area)
    unfolding turn_of page_of
    turn_60 b = rw (ok, lt-leb (6 * conditions_of a) (length area) l) (refl, refl)

  module _ (long : shared_length (page_of a) ≤ length area) (b : ℕ) where
    -- 14, the first stall before the second
    pub turn_first : run_sound (page_of a) (part_of (page_of a) first area) ≡ false → (refused_turn 14 1 ≡ (turn_of a area b).answer) × (area ≡ (turn_of a area b).area)
    unfolding turn_of
    turn_first e = rw (ok, le-leb (shared_length (page_of a)) (length area) long, e) (refl, refl)

    pub turn_second : run_sound (page_of a) (part_of (page_of a) first area) ≡ true → run_sound (page_of a) (part_of (page_of a) second area) ≡ false
        → (refused_turn 14 2 ≡ (turn_of a area b).answer) × (area ≡ (turn_of a area b).area)
    unfolding turn_of
    turn_second h e = rw (ok, le-leb (shared_length (page_of a)) (length area) long, h, e) (refl, refl)

-- 10 and 60 refuse every call
pub refuses_10 : (a area : List ℕ) → sound a ≡ false → Refuses a area PageNotSound
refuses_10 a area e =
    record {
      opening = λ s qs. (open_10 a area e s qs).0;
      opening_leaves = λ s qs. (open_10 a area e s qs).1;
      evaluation = evaluate_10 a area e;
      turn = λ b. (turn_10 a area e b).0;
      turn_leaves = λ b. (turn_10 a area e b).1;
    }

pub refuses_60 : (a area : List ℕ) → sound a ≡ true → length area < 6 * conditions_of a → Refuses a area SharedShort
refuses_60 a area ok l =
    record {
      opening = λ s qs. (open_60 a area ok l s qs).0;
      opening_leaves = λ s qs. (open_60 a area ok l s qs).1;
      evaluation = evaluate_60 a area ok l;
      turn = λ b. (turn_60 a area ok l b).0;
      turn_leaves = λ b. (turn_60 a area ok l b).1;
    }

-- past 60, as on the stall's part alone
module _ (a : List ℕ) (s : Stall) (area : List ℕ) (ok : sound a ≡ true) (long : shared_length (page_of a) ≤ length area) where
  pub open_none : (qs : List ℕ)
      → open_stall a s qs area ≡ record { answer = (open_of a qs (part_of (page_of a) s area)).answer; run = with_part (page_of a) s area (open_of a qs (part_of (page_of a) s area)).run }
  unfolding open_stall
  open_none qs = rw (ok, le-leb (shared_length (page_of a)) (length area) long)

  pub evaluate_none : (c : ℕ)
      → evaluate_stall a s area c
      ≡ record { answer = (operation a (part_of (page_of a) s area) (evaluate c)).answer; run = with_part (page_of a) s area (operation a (part_of (page_of a) s area) (evaluate c)).run }
  unfolding evaluate_stall
  evaluate_none c = rw (ok, le-leb (shared_length (page_of a)) (length area) long)
