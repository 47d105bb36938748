-- The alternating fixed point is the closed reading. Assumes nothing.
use mathlib.Core.Path.{◌≡◌, refl, sym, ◌∙◌, ap, subst}
use mathlib.Core.Bool.{Bool, true, false, cond}
use Prim.Native.Nat.{ℕ, zero, suc, ◌+◌, ◌*◌, ◌-◌, ◌≤◌, ◌<◌}
use native.Mathlib.Omega.{arith}
use Rattle.fixpoint.specs.Interval.{Interval, Within, Ordered, Assign}
use Rattle.fixpoint.specs.KnowledgeOrder.{Under, bottom, unknown}
use Rattle.fixpoint.specs.System.{Agrees}
use Rattle.fixpoint.specs.LeastFixpoint.{Operator, iter}
use Rattle.fixpoint.specs.Sum.{bit, count}
use Rattle.fixpoint.specs.WellFounded.{IsClosedReading, closed}
use Rattle.fixpoint.specs.AlternatingFixpoint.{merge, mix, floor, IsHighs, IsLows, Rounds, first, again, highs, turn, turns, alternate}
use Rattle.fixpoint.proofs.Cond.{cond_least}
use Rattle.fixpoint.proofs.Sum.{sum_le, sum_add, sum_const, sum_scale}
use Rattle.fixpoint.proofs.KnowledgeOrder.{pair_eq, under_trans, under_antisym, under_eq}
use Rattle.fixpoint.proofs.Merge.{merge_same, floor_in, merge_under, floor_mono, merge_eq}
use Rattle.fixpoint.proofs.LeastFixpoint.{ext, iter_within, iter_grows}
use Rattle.fixpoint.proofs.Stationary.{portion, still_by}
use Rattle.fixpoint.proofs.WellFounded.{closed_within, closed_reading, closed_ordered}
use Rattle.fixpoint.proofs.AlternatingLimit.{pair_closes, pair_above, highs_over, lows_under}
use Rattle.fixpoint.proofs.AlternatingHalves.{LowIn, lows_floor, lows_are, lows_unique, highs_are, highs_unique, highs_anti, turn_operator}

-- what is left to learn of a floor
abbrev pub room : Bool → ℕ → Interval → ℕ
room t top p = (top - p.low) + cond t p.high 0

pub room_le : (t : Bool) (top : ℕ) {p q : Interval} → Under p q → room t top q ≤ room t top p
room_le true top h = omega arith
room_le false top h = omega arith

pub room_eq : (t : Bool) (top : ℕ) {p q : Interval} → Under p q → Within top q → merge t p (unknown top) ≡ p → merge t q (unknown top) ≡ q
    → room t top q ≡ room t top p → p ≡ q
room_eq true top h w f g e = pair_eq (omega arith) (omega arith)
room_eq false top h w f g e = sym f ∙ pair_eq (omega arith) refl ∙ g

pub room_first : (t : Bool) (top : ℕ) → room t top (record { low = 0; high = top }) ≤ top + bit t * top
room_first true top = omega arith
room_first false top = omega arith

module _ {n top : ℕ} {T : Assign → ℕ → Interval} (O : Operator n top T) (free : ℕ → Bool) where
  -- the rounds, computed: each knows more, and holds nothing but a floor
  pub turns_within : (k c : ℕ) → c < n → Within top (turns n top T free k c)
  unfolding turns
  turns_within = iter_within (turn_operator O free)

  pub turns_grow : (k c : ℕ) → c < n → Under (turns n top T free k c) (turns n top T free (suc k) c)
  unfolding turns
  turns_grow = iter_grows (turn_operator O free)

  pub turns_floor : (k c : ℕ) → c < n → floor top free (turns n top T free k) c ≡ turns n top T free k c
  unfolding turns iter bottom turn
  turns_floor zero c l = merge_same (free c) (unknown top)
  turns_floor (suc k) c l = lows_floor O free (highs n top T free (turns n top T free k)) c l

  pub turns_low : (k : ℕ) → LowIn O free (turns n top T free k)
  turns_low k c l = floor_in (free c) (turns_within k c l)

  pub turns_rise : (k c : ℕ) → c < n → Under (floor top free (turns n top T free k) c) (floor top free (turns n top T free (suc k)) c)
  turns_rise k c l = floor_mono (free c) top (turns_grow k c l)

  -- a floor holds n low ends, and a high end for each free condition: so many times top rounds, and nothing changes any more
  pub turns_settle : (k : ℕ) → n * top + count n free * top ≤ k → (c : ℕ) → c < n → turns n top T free k c ≡ turns n top T free (suc k) c
  unfolding turns portion
  turns_settle k h c l =
      still_by {reached = λ b. true} top (turn n top T free) (λ I J e b m r. ext (turn_operator O free) I J (λ a i. e a i refl) b m) (λ b. room (free b) top) (λ b. top + bit (free b) * top)
      (λ j b m r. room_le (free b) top (turns_grow j b m))
      (λ j b m r e. room_eq (free b) top (turns_grow j b m) (turns_within (suc j) b m) (turns_floor j b m) (turns_floor (suc j) b m) e)
      (λ b. room_first (free b) top) k (omega (arith, sum_add n (λ b. top) (λ b. bit (free b) * top), sum_const n top, sum_scale n top (λ b. bit (free b)))) c l refl

  abbrev C : Assign
  C = closed n top T free

  -- every round is under the closed reading
  pub rounds_highs : {L H : Assign} {k : ℕ} → Rounds n top T free L H k → IsHighs n top T free L H
  rounds_highs (first z p) = p
  rounds_highs (again r q p) = p

  pub rounds_low : {L H : Assign} {k : ℕ} → Rounds n top T free L H k → (c : ℕ) → c < n → Under (floor top free L c) (floor top free C c)
  rounds_low (first z p) c l = under_trans (under_eq (z c l)) (omega (arith, floor_in (free c) (closed_within O free c l)))
  rounds_low (again r q p) c l = lows_under O free (rounds_highs r).in_top q (highs_over O free (rounds_highs r) (rounds_low r)) c l

  pub rounds_under : {L H : Assign} {k : ℕ} → Rounds n top T free L H k → (c : ℕ) → c < n → Under (mix free L H c) (C c)
  rounds_under {L} {H} r c l =
      under_trans (merge_under (free c) top (L c) (C c) (H c) (C c) (rounds_low r c l) (highs_over O free (rounds_highs r) (rounds_low r) c l)) (under_eq (merge_same (free c) (C c)))

  -- a round that the next one equals is the closed reading
  pub rounds_closed : {L H : Assign} {k : ℕ} → Rounds n top T free L H k → IsLows n top T free H L → (c : ℕ) → c < n → mix free L H c ≡ C c
  rounds_closed r q c l = under_antisym (rounds_under r c l) (pair_above O free (rounds_highs r) q c l)

  pub rounds_reading : {L H : Assign} {k : ℕ} → Rounds n top T free L H k → IsLows n top T free H L
      → IsClosedReading n top T free (mix free L H)
  rounds_reading {L} {H} r q =
      record {
        closes = pair_closes O free (rounds_highs r) q;
        least = λ I k c l. under_trans (rounds_under r c l) ((closed_reading O free).least I k c l);
      }

  -- equal floors have equal high ends, and the other way round
  pub lows_ext : {H G L M : Assign} → ((c : ℕ) → c < n → free c ≡ false → (H c).high ≡ (G c).high)
      → ((c : ℕ) → c < n → floor top free L c ≡ floor top free M c) → IsLows n top T free H L → IsLows n top T free G M
  lows_ext {H} {G} {L} {M} h e q =
      record {
        in_top = λ c l. subst (Within top) (e c l) (q.in_top c l);
        fixed = λ c l. sym (e c l) ∙ q.fixed c l ∙ ap (λ (r : Interval). merge (free c) r (unknown top)) (ext O (mix free L H) (mix free M G) (λ b m. merge_eq (free b) top (L b) (M b) (H b) (G b) (e b m) (h b m)) c l);
        least = λ K w f c l. under_trans (under_eq (sym (e c l))) (q.least K w (λ b m. f b m ∙ ap (λ (r : Interval). merge (free b) r (unknown top)) (ext O (mix free K G) (mix free K H) (λ a i. merge_eq (free a) top (K a) (K a) (G a) (H a) refl (λ d. sym (h a i d))) b m)) c l);
      }

  pub highs_move : {L M H : Assign} → ((c : ℕ) → c < n → floor top free L c ≡ floor top free M c) → IsHighs n top T free L H
      → IsHighs n top T free M H
  highs_move {L} {M} {H} h q =
      record {
        in_top = q.in_top;
        fixed = λ c l e. q.fixed c l e ∙ ap (λ (r : Interval). r.high) (ext O (mix free L H) (mix free M H) (λ b m. merge_eq (free b) top (L b) (M b) (H b) (H b) (h b m) (λ d. refl)) c l);
        least = λ K w f c l e. q.least K w (λ b m d. f b m d ∙ ap (λ (r : Interval). r.high) (ext O (mix free M K) (mix free L K) (λ a i. merge_eq (free a) top (M a) (L a) (K a) (K a) (sym (h a i)) (λ d. refl)) b m)) c l e;
      }

  pub highs_same : {L M H G : Assign} → ((c : ℕ) → c < n → floor top free L c ≡ floor top free M c) → IsHighs n top T free L H
      → IsHighs n top T free M G → (c : ℕ) → c < n → free c ≡ false → (H c).high ≡ (G c).high
  highs_same h p q = highs_unique O free (highs_move h p) q

  pub lows_same : {H G L M : Assign} → ((c : ℕ) → c < n → free c ≡ false → (H c).high ≡ (G c).high) → IsLows n top T free H L
      → IsLows n top T free G M → (c : ℕ) → c < n → floor top free L c ≡ floor top free M c
  lows_same {L = L} h p q = lows_unique O free (lows_ext {M = L} h (λ b m. refl) p) q

  -- the rounds are those computed
  next_lows : (k : ℕ) → IsLows n top T free (highs n top T free (turns n top T free k)) (turns n top T free (suc k))
  unfolding turns iter turn
  next_lows k = lows_are O free (highs n top T free (turns n top T free k)) (highs_are O free (turns n top T free k) (turns_low k)).in_top

  turns_first : (c : ℕ) → c < n → floor top free (turns n top T free 0) c ≡ unknown top
  unfolding turns iter bottom
  turns_first c l = merge_same (free c) (unknown top)

  pub rounds_at : (k : ℕ) → Rounds n top T free (turns n top T free k) (highs n top T free (turns n top T free k)) k
  rounds_at zero = first turns_first (highs_are O free (turns n top T free 0) (turns_low 0))
  rounds_at (suc k) = again (rounds_at k) (next_lows k) (highs_are O free (turns n top T free (suc k)) (turns_low (suc k)))

  -- given `Agrees`, the two ends of a free condition do not pass one another
  pub turns_ordered : Agrees n T → (k c : ℕ) → c < n → Ordered (turns n top T free k c)
  turns_ordered G k c l =
      omega (
        arith,
        under_trans (under_eq (sym (turns_floor k c l))) (rounds_low (rounds_at k) c l),
        cond_least (free c) (λ e. closed_ordered O free G c l) (λ e. (closed_within O free c l).low_in),
      )

  -- the halves of round k
  pub rounds_are : {L H : Assign} {k : ℕ} → Rounds n top T free L H k → (c : ℕ) → c < n
      → floor top free L c ≡ floor top free (turns n top T free k) c
  rounds_are (first z p) c l = z c l ∙ sym (turns_first c l)
  rounds_are (again {k = k} r q p) c l = lows_same (highs_same (rounds_are r) (rounds_highs r) (highs_are O free (turns n top T free k) (turns_low k))) q (next_lows k) c l

  pub rounds_agree : {L H : Assign} {k : ℕ} → Rounds n top T free L H k → (c : ℕ) → c < n → free c ≡ false
      → (H c).high ≡ (highs n top T free (turns n top T free k) c).high
  rounds_agree {k = k} r = highs_same (rounds_are r) (rounds_highs r) (highs_are O free (turns n top T free k) (turns_low k))

  -- the floor rises and the high ends fall
  pub rounds_rise : {L H M : Assign} {k : ℕ} → Rounds n top T free L H k → IsLows n top T free H M → (c : ℕ) → c < n
      → Under (floor top free L c) (floor top free M c)
  rounds_rise {k = k} r q c l =
      under_trans (under_eq (rounds_are r c l)) (under_trans (turns_rise k c l) (under_eq (sym (lows_same (rounds_agree r) q (next_lows k) c l))))

  pub rounds_fall : {L H M G : Assign} {k : ℕ} → Rounds n top T free L H k → IsLows n top T free H M → IsHighs n top T free M G → (c : ℕ)
      → c < n → free c ≡ false → (G c).high ≤ (H c).high
  rounds_fall {k = k} r q p c l e =
      omega (arith, rounds_agree r c l e, rounds_agree (again r q p) c l e, highs_anti O free (turns n top T free k) (turns n top T free (suc k)) (turns_rise k) c l)

  -- after so many rounds the floor stays
  pub rounds_settle : {L H : Assign} {k : ℕ} → Rounds n top T free L H k → n * top + count n free * top ≤ k → IsLows n top T free H L
  rounds_settle {k = k} r h =
      lows_ext (λ c l e. sym (rounds_agree r c l e)) (λ c l. sym (ap (λ (p : Interval). merge (free c) p (unknown top)) (turns_settle k h c l)) ∙ sym (rounds_are r c l)) (next_lows k)

  -- n * (top + top) rounds are enough
  last : n * top + count n free * top ≤ n * (top + top)
  last =
      omega (arith, sum_const n top, sum_const n (top + top), sum_add n (λ b. top) (λ b. top), sum_scale n top (λ b. bit (free b)), sum_le n (λ b. bit (free b) * top) (λ b. top) (λ b m. few (free b)))
    where
      few : (t : Bool) → bit t * top ≤ top
      few true = omega arith
      few false = omega arith

  -- the alternating fixed point is the closed reading
  pub alternate_reading : IsClosedReading n top T free (alternate n top T free)
  unfolding alternate
  alternate_reading = rounds_reading (rounds_at (n * (top + top))) (rounds_settle (rounds_at (n * (top + top))) last)

  pub alternate_closed : (c : ℕ) → c < n → alternate n top T free c ≡ closed n top T free c
  unfolding alternate
  alternate_closed = rounds_closed (rounds_at (n * (top + top))) (rounds_settle (rounds_at (n * (top + top))) last)
