-- The rounds of the alternating fixed point on what is reached: where they rest, and how many there are. Assumes nothing.
use mathlib.Core.Path.{refl, ◌∙◌, ap, ap₂}
use mathlib.Core.Bool.{Bool, true, false, ◌&&◌}
use Prim.Native.Nat.{ℕ, suc, ◌+◌, ◌*◌, ◌≤◌, ◌<◌}
use native.Mathlib.Omega.{arith}
use Rattle.fixpoint.specs.Interval.{Interval, Assign}
use Rattle.fixpoint.specs.KnowledgeOrder.{Alike, unknown}
use Rattle.fixpoint.specs.System.{System, Agrees}
use Rattle.fixpoint.specs.LeastFixpoint.{Operator}
use Rattle.fixpoint.specs.Sum.{bit, count}
use Rattle.fixpoint.specs.ChaoticIteration.{DependencyClosed}
use Rattle.fixpoint.specs.WellFounded.{closed}
use Rattle.fixpoint.specs.AlternatingFixpoint.{merge, mix, highs, turn, turns}
use Rattle.fixpoint.proofs.Sum.{sum_le, sum_add, sum_scale}
use Rattle.fixpoint.proofs.KnowledgeOrder.{width, width_le, width_eq}
use Rattle.fixpoint.proofs.PlainReading.{operator}
use Rattle.fixpoint.proofs.Stationary.{portion, portion_top, stays_on, in_bound}
use Rattle.fixpoint.proofs.AlternatingFixpoint.{turns_within, turns_grow, turns_floor, room, room_le, room_eq, room_first, rounds_at, rounds_closed, rounds_settle, turns_ordered}
use Rattle.fixpoint.proofs.Reachable.{turn_alike, highs_alike}

module _ {n top : ℕ} {T : Assign → ℕ → Interval} {names : ℕ → ℕ → Bool} (S : System n top T names)
    {reached : ℕ → Bool} (shut : DependencyClosed n names reached) (free : ℕ → Bool) where
  abbrev O : Operator n top T
  O = operator S

  turn_on : (I J : Assign) → Alike n reached I J → Alike n reached (turn n top T free I) (turn n top T free J)
  turn_on = turn_alike S shut (λ I c l r. refl) (λ c l r. refl)

  -- a round that changes anything narrows an interval of a reached condition, so there are at most R * top of them
  pub turns_bound : Agrees n T → (k : ℕ) → ((j : ℕ) → j < k → ¬ Alike n reached (turns n top T free j) (turns n top T free (suc j)))
      → k ≤ count n reached * top
  unfolding turns
  turns_bound G k h =
      omega (
        arith,
        portion_top n top reached,
        in_bound top (turn n top T free) turn_on (λ c. width) (λ c. top) (λ k c l r. width_le (turns_grow O free k c l))
            (λ k c l r e. width_eq (turns_grow O free k c l) (turns_ordered O free G (suc k) c l) e) (λ c. omega arith) k h,
      )

  -- without `Agrees` the ends may pass one another; then each round still moves a low end, or the high end of a free condition
  pub turns_bound_any : (k : ℕ) → ((j : ℕ) → j < k → ¬ Alike n reached (turns n top T free j) (turns n top T free (suc j)))
      → k ≤ count n reached * top + count n (λ c. reached c && free c) * top
  unfolding turns
  turns_bound_any k h =
      omega (
        arith,
        sum_le n (λ c. portion (reached c) (top + bit (free c) * top)) (λ c. bit (reached c) * top + bit (reached c && free c) * top) (λ c l. share (reached c) (free c)),
        sum_add n (λ c. bit (reached c) * top) (λ c. bit (reached c && free c) * top),
        sum_scale n top (λ c. bit (reached c)),
        sum_scale n top (λ c. bit (reached c && free c)),
        in_bound top (turn n top T free) turn_on (λ c. room (free c) top) (λ c. top + bit (free c) * top) (λ k c l r. room_le (free c) top (turns_grow O free k c l))
            (λ k c l r e. room_eq (free c) top (turns_grow O free k c l) (turns_within O free (suc k) c l) (turns_floor O free k c l) (turns_floor O free (suc k) c l) e) (λ c. room_first (free c) top) k h,
      )
    where
      share : (t f : Bool) → portion t (top + bit f * top) ≤ bit t * top + bit (t && f) * top
      share true f = unfold portion in omega arith
      share false f = unfold portion in omega arith

  -- a round that the next one equals is the closed reading
  pub turns_closed : (k : ℕ) → Alike n reached (turns n top T free k) (turns n top T free (suc k))
      → Alike n reached (mix free (turns n top T free k) (highs n top T free (turns n top T free k))) (closed n top T free)
  turns_closed k h c l r =
      ap₂ (λ (p q : Interval). merge (free c) p q) (last c l r)
      (highs_alike S shut (λ I c l r. refl) (λ c l r. refl) (turns n top T free k) (turns n top T free m) (λ b i e. ap (λ (p : Interval). merge (free b) p (unknown top)) (last b i e)) c l r)
      ∙ rounds_closed O free (rounds_at O free m) (rounds_settle O free (rounds_at O free m) (omega arith)) c l
    where
      m : ℕ
      m = (n * top + count n free * top) + k

      last : Alike n reached (turns n top T free k) (turns n top T free m)
      last = unfold turns in stays_on top (turn n top T free) turn_on k h (n * top + count n free * top)
