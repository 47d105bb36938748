-- The assignments of a page, on what is marked. Assumes nothing.
use mathlib.Core.Path.{◌≡◌}
use mathlib.Core.Logic.{◌⊎◌, inl, inr, ⊎_elim}
use mathlib.Core.Bool.{Bool, true, false}
use mathlib.Core.List.{List}
use Prim.Native.Nat.{ℕ, suc, ◌≤◌, ◌<◌}
use native.Mathlib.Nat.{mul-le-mul_left, le_refl}
use native.Mathlib.Omega.{arith}
use Rattle.fixpoint.specs.Interval.{Within, Assign}
use Rattle.fixpoint.specs.KnowledgeOrder.{Alike}
use Rattle.fixpoint.specs.ChaoticIteration.{DependencyClosed}
use Rattle.fixpoint.specs.Sum.{bit, count}
use Rattle.fixpoint.proofs.ClosedRounds.{stage_bound}
use Rattle.fixpoint.proofs.Cond.{cond_eq, cond_most}
use Rattle.fixpoint.proofs.KnowledgeOrder.{pair_eq}
use Rattle.fixpoint.proofs.PlainReading.{operator}
use Rattle.fixpoint.proofs.Sum.{sum_le, sum_const}
use Rattle.fixpoint.proofs.WellFounded.{closed_within}
use Rattle.semantics.specs.Area.{page_of, top_of, conditions_of}
use Rattle.semantics.specs.Body.{T, unknown_by_default}
use Rattle.semantics.specs.Grade.{upper}
use Rattle.semantics.specs.Page.{names}
use Rattle.semantics.specs.Rounds.{IsRoundCount}
use Rattle.semantics.specs.Table.{member}
use Rattle.semantics.proofs.Readings.{page_agrees}
use Rattle.page.proofs.Head.{head_of}
use Rattle.settle.specs.Ends.{reads}
use Rattle.settle.specs.Scratch.{held, settled_at, CappedAt}
use Rattle.settle.proofs.Raising.{S, E}
use Rattle.rounds.specs.Round.{closed_at}
use Rattle.stages.specs.Steps.{free_at}
use Rattle.stages.specs.Stages.{stage_at, between_at, SameFloor}
use Rattle.stages.proofs.Assignments.{high_eq, first_at, falls, rises, over_closed, support_is, next_is, restart_known, moving_next, count_here, count_after}
use Rattle.page.specs.Solvable.{solvable}
use Rattle.page.proofs.Solvable.{solvable_proper}

module _ (a : List ℕ) (ok : solvable a ≡ true) (m : List Bool) (shut : DependencyClosed (conditions_of a) (names (page_of a)) (member m)) where
  abbrev n : ℕ
  n = conditions_of a

  pub stage_first : (c : ℕ) → stage_at a 0 c ≡ record { low = 0; high = top_of a }
  stage_first c = first_at (S a ok) (E a ok) shut (free_at a) c

  pub stage_falls : (k c : ℕ) → c < n → (stage_at a (suc k) c).high ≤ (stage_at a k c).high
  stage_falls = falls (S a ok) (E a ok) shut (free_at a)

  pub stage_rises : (k c : ℕ) → c < n → (stage_at a k c).low ≤ (stage_at a (suc k) c).low
  stage_rises = rises (S a ok) (E a ok) shut (free_at a)

  pub stage_over : (k c : ℕ) → c < n → (closed_at a c).high ≤ (stage_at a k c).high
  stage_over = over_closed (S a ok) (E a ok) shut (free_at a)

  pub between_falls : (k c : ℕ) → c < n → (between_at a k c).high ≤ (stage_at a k c).high
  between_falls k c l = cond_most (free_at a c) (λ e. le_refl (stage_at a k c).high) (λ e. stage_falls k c l)

  pub closed_in : (c : ℕ) → c < n → Within (top_of a) (closed_at a c)
  closed_in = closed_within (operator (S a ok)) (free_at a)

  abbrev pub FloorOf : ℕ → Assign → Type 0
  FloorOf k I = SameFloor n (free_at a) (member m) I (stage_at a k)

  -- the support of the floor that a scratch holds
  module _ (k : ℕ) (s : List ℕ) (h : FloorOf k (held n s)) where
    pub support_at : (c : ℕ) → c < n → member m c ≡ true → settled_at upper a s c ≡ (between_at a k c).high
    support_at c l r = cond_eq (free_at a c) (λ e. h.highs c l r e) (λ e. support_is (S a ok) (E a ok) shut (free_at a) k (held n s) h c l r e)

    -- T lets no high end of a free condition rise
    pub capped_at : (c : ℕ) → c < n → member m c ≡ true → free_at a c ≡ true → CappedAt upper a s c
    capped_at c l r e =
        omega (
          arith,
          high_eq (next_is (S a ok) (E a ok) shut (free_at a) k _ (λ b i q. pair_eq (h.lows b i q) (support_at b i q)) c l r),
          stage_falls k c l,
          h.highs c l r e,
        )

  pub next_at : (k : ℕ) (I : Assign) → Alike n (member m) I (between_at a k) → Alike n (member m) (T (page_of a) I) (stage_at a (suc k))
  next_at k I h = next_is (S a ok) (E a ok) shut (free_at a) k I h

  -- who keeps its high end over assignment j + 1
  pub record KeepsTop (j : ℕ) (I : Assign) (c : ℕ) : Type 0 where
    pub same : (I c).high ≡ (stage_at a (suc j) c).high
    pub plain : (b : ℕ) → b < n → reads (page_of a) false c b ≡ true → (I b).high ≡ (stage_at a (suc j) b).high
    pub other : (b : ℕ) → b < n → reads (page_of a) true c b ≡ true → (stage_at a j b).low ≡ (stage_at a (suc j) b).low
    pub unfallen : (b : ℕ) → b < n → reads (page_of a) false c b ≡ true → free_at a b ≡ true → (stage_at a j b).high ≡ (stage_at a (suc j) b).high

  pub restart_at : (j : ℕ) (I : Assign) → ((c : ℕ) → c < n → member m c ≡ true → free_at a c ≡ false → ((I c).high ≡ (closed_at a c).high) ⊎ KeepsTop j I c)
      → (c : ℕ) → c < n → member m c ≡ true → free_at a c ≡ false → (I c).high ≤ (stage_at a (suc (suc j)) c).high
  restart_at j I h =
      restart_known (S a ok) (E a ok) shut (free_at a) j I
      (λ c l r e. ⊎_elim (λ z. inl z) (λ k. inr (record { same = k.same; plain = k.plain; other = k.other; unfallen = k.unfallen })) (h c l r e))

  -- every assignment before k was changed by the next
  abbrev pub MovingAt : ℕ → Type 0
  MovingAt k = (j : ℕ) → j < k → ¬ Alike n (member m) (stage_at a j) (stage_at a (suc j))

  pub moving_on : (k : ℕ) → MovingAt k → ¬ Alike n (member m) (stage_at a k) (stage_at a (suc k)) → MovingAt (suc k)
  moving_on k h d = moving_next (S a ok) (E a ok) shut (free_at a) h d

  one_bit : (t : Bool) → bit t ≤ 1
  one_bit true = omega arith
  one_bit false = omega arith

  -- so k is at most R * top, which takes 17 bits
  pub rounds_few : (k : ℕ) → MovingAt k → k ≤ 102400
  unfolding page_of
  rounds_few k h =
      let w = solvable_proper a ok in
      omega (
        arith,
        stage_bound (S a ok) shut (free_at a) (page_agrees (page_of a) w) k h,
        (head_of a ok).few,
        w.top_most,
        sum_const n 1,
        sum_le n (λ c. bit (member m c)) (λ c. 1) (λ c l. one_bit (member m c)),
        mul-le-mul_left (count n (member m)) w.top_most,
      )

  -- the floor does not move
  module _ (k : ℕ) (still : FloorOf k (stage_at a (suc k))) (h : MovingAt k) where
    pub counted_here : ((c : ℕ) → c < n → member m c ≡ true → free_at a c ≡ false → (stage_at a (suc k) c).high ≡ (stage_at a k c).high)
        → IsRoundCount n (top_of a) (T (page_of a)) (unknown_by_default (page_of a)) (member m) k
    counted_here g = count_here (S a ok) (E a ok) shut (free_at a) k still h g

    module _ (c : ℕ) (l : c < n) (r : member m c ≡ true) (o : (closed_at a c).high < (stage_at a k c).high) where
      pub counted_after : IsRoundCount n (top_of a) (T (page_of a)) (unknown_by_default (page_of a)) (member m) (suc k)
      counted_after = count_after (S a ok) (E a ok) shut (free_at a) k still l r o h
