-- A round of the alternating fixed point on the reached conditions: what holds where each half starts and ends, and where the rounds end.
-- Assumes nothing.
use mathlib.Core.Path.{◌≡◌, refl, sym, ◌∙◌, ap}
use mathlib.Core.Bool.{Bool, true, false}
use Prim.Native.Nat.{ℕ, zero, suc, ◌≤◌, ◌<◌, min}
use native.Mathlib.Omega.{arith}
use Rattle.fixpoint.specs.Interval.{Interval, Within, Assign}
use Rattle.fixpoint.specs.KnowledgeOrder.{Under, Alike, bottom, unknown}
use Rattle.fixpoint.specs.System.{System}
use Rattle.fixpoint.specs.LeastFixpoint.{Operator, iter}
use Rattle.fixpoint.specs.ChaoticIteration.{DependencyClosed}
use Rattle.fixpoint.specs.WellFounded.{closed}
use Rattle.fixpoint.specs.AlternatingFixpoint.{merge, mix, floor, highs, lift, lows, turn, turns}
use Rattle.fixpoint.specs.Tables.{Turned, Topped}
use Rattle.fixpoint.proofs.Cond.{by_bool, cond_true, cond_false, cond_least, cond_le}
use Rattle.fixpoint.proofs.KnowledgeOrder.{pair_eq, under_refl, under_trans, under_antisym, under_eq}
use Rattle.fixpoint.proofs.Merge.{merge_same, merge_floor, merge_in, merge_eq}
use Rattle.fixpoint.proofs.LeastFixpoint.{lfp_fixed, lfp_under}
use Rattle.fixpoint.proofs.LeastOnReached.{mono_on, lfp_under_on}
use Rattle.fixpoint.proofs.PlainReading.{operator}
use Rattle.fixpoint.proofs.AlternatingHalves.{lift_operator, lows_within, lows_anti, highs_within, highs_anti}
use Rattle.fixpoint.proofs.AlternatingFixpoint.{turns_floor, turns_low, turns_grow, turns_rise}
use Rattle.fixpoint.proofs.Reachable.{T_alike, highs_alike, lift_alike, lows_alike}
use Rattle.fixpoint.proofs.Tables.{turned_closed}
use Rattle.semantics.specs.Grade.{upper}
use Rattle.settle.specs.Ends.{nobody, settled_end}

pub low_eq : {p q : Interval} → p ≡ q → p.low ≡ q.low
low_eq h = ap (λ (r : Interval). r.low) h

pub high_eq : {p q : Interval} → p ≡ q → p.high ≡ q.high
high_eq h = ap (λ (r : Interval). r.high) h

-- a pair whose high end is at hand is its own merge
merge_with : (t : Bool) (p q : Interval) → (t ≡ false → q.high ≡ p.high) → merge t p q ≡ p
merge_with true p q h = refl
merge_with false p q h = pair_eq refl (h refl)

module _ {n top : ℕ} {T : Assign → ℕ → Interval} {names : ℕ → ℕ → Bool} (S : System n top T names) (free : ℕ → Bool) where
  O : Operator n top T
  O = operator S

  lift_low : (f : ℕ → Bool) (H X : Assign) (c : ℕ) → (lift top T f H X c).low ≡ min top (T (mix f X H) c).low
  unfolding lift
  lift_low f H X c = refl

  lift_high : (H X : Assign) (c : ℕ) → free c ≡ true → (lift top T free H X c).high ≡ min top (T (mix free X H) c).high
  unfolding lift
  lift_high H X c f = cond_true _ top f

  lift_open : (f : ℕ → Bool) (H X : Assign) (c : ℕ) → f c ≡ false → (lift top T f H X c).high ≡ top
  unfolding lift
  lift_open f H X c g = cond_false _ top g

  lows_fixed : (f : ℕ → Bool) (H : Assign) (c : ℕ) → c < n → lows n top T f H c ≡ lift top T f H (lows n top T f H) c
  unfolding lows
  lows_fixed f H = lfp_fixed (lift_operator O f H)

  -- The floor over the high ends of G is the goal; I tells no more than the goal and these high ends do.
  module _ (G : Assign) {reached : ℕ → Bool} (shut : DependencyClosed n names reached) (I : Assign)
      (u : (b : ℕ) → b < n → reached b ≡ true → Under (I b) (mix free (lows n top T free G) G b)) where
    abbrev Q : Assign
    Q = lows n top T free G

    T_on : (J K : Assign) → ((b : ℕ) → b < n → reached b ≡ true → Under (J b) (K b)) → (c : ℕ) → c < n → reached c ≡ true → Under (T J c) (T K c)
    T_on = mono_on O (T_alike S shut (λ J b m e. refl) {free = free} (λ b m e. refl))

    lift_on : (f : ℕ → Bool) (H X Y : Assign) → Alike n reached X Y → Alike n reached (lift top T f H X) (lift top T f H Y)
    lift_on f H X Y h =
        lift_alike S shut (λ J b m e. refl) (λ b m e. refl) H H (λ b m e g. refl) X Y (λ b m e. ap (λ (p : Interval). merge (f b) p (unknown top)) (h b m e))

    -- so do the low ends that come of its high ends, and the high ends that T makes of it
    pub lows_under : (c : ℕ) → c < n → reached c ≡ true → (lows n top T nobody I c).low ≤ (Q c).low
    lows_under c l r =
        at c l r (λ b m. record { low_in = (lows_within O free G b m).low_in; high_in = omega arith })
        (λ b m e. record {
          lows = omega (
            arith,
            lift_low nobody I (λ d. record { low = (Q d).low; high = top }) b,
            (T_on (mix nobody (λ d. record { low = (Q d).low; high = top }) I) (mix free Q G) (λ d i a. record { lows = omega arith; highs = (u d i a).highs }) b m e).lows,
            low_eq (lows_fixed free G b m),
            lift_low free G Q b,
          );
          highs = omega (arith, lift_open nobody I (λ d. record { low = (Q d).low; high = top }) b refl);
        })
      where
        at : (c : ℕ) → c < n → reached c ≡ true → ((b : ℕ) → b < n → Within top (record { low = (Q b).low; high = top }))
            → ((b : ℕ) → b < n → reached b ≡ true → Under (lift top T nobody I (λ d. record { low = (Q d).low; high = top }) b) (record { low = (Q b).low; high = top }))
            → (lows n top T nobody I c).low ≤ (Q c).low
        at c l r w o =
            unfold lows in (lfp_under_on (lift_operator O nobody I) (lift_on nobody I) (λ d. record { low = (Q d).low; high = top }) (λ b m e. w b m) o c l r).lows

    pub highs_over : (c : ℕ) → c < n → reached c ≡ true → free c ≡ true → (Q c).high ≤ (T I c).high
    highs_over c l r f = omega (arith, high_eq (lows_fixed free G c l), lift_high G Q c f, (T_on I (mix free Q G) u c l r).highs)

    -- where T raises no low end and lowers no high end of a free condition, it is the goal
    module _ (t : (b : ℕ) → b < n → reached b ≡ true → free b ≡ false → (G b).high ≡ (I b).high) (w : (b : ℕ) → b < n → reached b ≡ true → Within top (floor top free I b))
        (rests : (c : ℕ) → c < n → reached c ≡ true → (T I c).low ≤ (I c).low) (down : (c : ℕ) → c < n → reached c ≡ true → free c ≡ true → (I c).high ≤ (T I c).high) where
      floor_T : (c : ℕ) → c < n → reached c ≡ true → T (mix free (floor top free I) G) c ≡ T I c
      floor_T = T_alike S shut (λ J b m e. refl) {free = free} (λ b m e. refl) (mix free (floor top free I) G) I
          (λ b m e. merge_floor (free b) top (I b) (G b) ∙ merge_with (free b) (I b) (G b) (t b m e))

      floor_over : (c : ℕ) → c < n → reached c ≡ true → Under (lift top T free G (floor top free I) c) (floor top free I c)
      floor_over c l r =
          record {
            lows = omega (arith, lift_low free G (floor top free I) c, low_eq (floor_T c l r), rests c l r);
            highs = by_bool (free c)
                (λ f. omega (arith, lift_high G (floor top free I) c f, high_eq (floor_T c l r), down c l r f, (w c l r).high_in, cond_true (I c).high top f))
                (λ f. omega (arith, cond_false (I c).high top f, lift_open free G (floor top free I) c f));
          }

      pub floor_done : (c : ℕ) → c < n → reached c ≡ true → floor top free I c ≡ Q c
      floor_done c l r =
          under_antisym
          (record { lows = (u c l r).lows; highs = cond_least (free c) (λ f. omega (arith, (u c l r).highs, cond_true (Q c).high (G c).high f)) (λ f. (lows_within O free G c l).high_in) })
          (unfold lows in lfp_under_on (lift_operator O free G) (lift_on free G) (floor top free I) w floor_over c l r)

  -- the low ends of a floor come of its high ends
  module _ (G : Assign) where
    abbrev M : Assign
    M = mix free (lows n top T free G) G

    abbrev K : Assign
    K b = record { low = (lows n top T nobody M b).low; high = (lows n top T free G b).high }

    low_M : (b : ℕ) → b < n → (lows n top T nobody M b).low ≤ (lows n top T free G b).low
    low_M b m = lows_under G {reached = λ d. true} (λ d e i j r q. refl) M (λ d i r. under_refl (M d)) b m refl

    K_over : (b : ℕ) → b < n → Under (lift top T free G K b) (K b)
    K_over b m =
        record {
          lows = omega (arith, lift_low free G K b, low_eq (lows_fixed nobody M b m), lift_low nobody M (lows n top T nobody M) b);
          highs = omega (
            arith,
            high_eq (lows_fixed free G b m),
            ((lift_operator O free G).mono K (lows n top T free G) (λ d i. record { lows = low_M d i; highs = omega arith }) b m).highs,
          );
        }

    floor_low : (c : ℕ) → c < n → (lows n top T free G c).low ≤ (lows n top T nobody M c).low
    floor_low c l =
        unfold lows in (lfp_under (lift_operator O free G) K (λ b m. record { low_in = (lows_within O nobody M b m).low_in; high_in = (lows_within O free G b m).high_in }) K_over c l).lows

  -- the low ends of round k lie under what they come to over its high ends
  abbrev highs_of : ℕ → Assign
  highs_of k = highs n top T free (turns n top T free k)

  abbrev after : ℕ → Assign
  after k = mix free (turns n top T free k) (highs n top T free (turns n top T free k))

  highs_fall : (k c : ℕ) → c < n → (highs_of (suc k) c).high ≤ (highs_of k c).high
  highs_fall k c l = highs_anti O free (turns n top T free k) (turns n top T free (suc k)) (turns_rise O free k) c l

  turns_below : (k c : ℕ) → c < n → (turns n top T free k c).low ≤ (lows n top T nobody (after k) c).low
  unfolding turns iter bottom turn
  turns_below zero c l = omega arith
  turns_below (suc k) c l =
      omega (
        arith,
        floor_low (highs_of k) c l,
        (lows_anti O nobody (after (suc k)) (mix free (turns n top T free (suc k)) (highs_of k)) (λ b m e. cond_le (free b) (λ f. omega arith) (λ f. highs_fall k b m)) c l).lows,
      )

  -- and T makes no more of the high end of a free condition than the round has
  after_in : (k c : ℕ) → c < n → Within top (after k c)
  after_in k c l = merge_in (free c) (turns n top T free k c) (highs_of k c) (turns_low O free k c l) (λ f. (highs_within O free (turns n top T free k) (turns_low O free k) c l).high_in)

  turns_capped : (k c : ℕ) → c < n → free c ≡ true → (T (after k) c).high ≤ (turns n top T free k c).high
  unfolding turns iter bottom turn
  turns_capped zero c l f = (O.bounded (after 0) (after_in 0) c l).high_in
  turns_capped (suc k) c l f =
      omega (
        arith,
        (O.bounded (after (suc k)) (after_in (suc k)) c l).high_in,
        (O.mono (mix free (turns n top T free (suc k)) (highs_of k)) (after (suc k)) (λ b m. record { lows = omega arith; highs = cond_le (free b) (λ g. omega arith) (λ g. highs_fall k b m) }) c l).highs,
        high_eq (lows_fixed free (highs_of k) c l),
        lift_high (highs_of k) (turns n top T free (suc k)) c f,
      )

  -- The rounds, told of the ends held.
  module _ {reached : ℕ → Bool} (shut : DependencyClosed n names reached) where
    pub turned_same : {k : ℕ} {I J : Assign} → ((c : ℕ) → c < n → reached c ≡ true → floor top free J c ≡ floor top free I c) → Turned n top T free reached k I
        → Turned n top T free reached k J
    turned_same h t = record { turned = λ c l r. h c l r ∙ t.turned c l r }

    pub topped_same : {k : ℕ} {I J : Assign} → ((c : ℕ) → c < n → reached c ≡ true → free c ≡ false → (J c).high ≡ (I c).high) → Topped n top T free reached k I
        → Topped n top T free reached k J
    topped_same h t = record { topped = λ c l r f. h c l r f ∙ t.topped c l r f }

    floors : {k : ℕ} {L : Assign} → Turned n top T free reached k L → Alike n reached (floor top free L) (floor top free (turns n top T free k))
    floors {k} t c l r = t.turned c l r ∙ sym (turns_floor O free k c l)

    highs_at : {k : ℕ} {L : Assign} → Turned n top T free reached k L → Alike n reached (highs n top T free L) (highs_of k)
    highs_at {k} {L} t = highs_alike S shut (λ I b m e. refl) (λ b m e. refl) L (turns n top T free k) (floors t)

    -- half one over the floor of L
    pub topped_by : {k : ℕ} {L H : Assign} → Turned n top T free reached k L
        → ((c : ℕ) → c < n → reached c ≡ true → (H c).high ≡ settled_end upper n top T free L c) → Topped n top T free reached k H
    topped_by {k} {L} t h = record { topped = λ c l r f. h c l r ∙ cond_false (L c).high (highs n top T free L c).high f ∙ high_eq (highs_at t c l r) }

    pub capped_by : {k : ℕ} {L : Assign} → Turned n top T free reached k L → (c : ℕ) → c < n → reached c ≡ true → free c ≡ true
        → (T (mix free L (highs n top T free L)) c).high ≤ (L c).high
    capped_by {k} {L} t c l r f =
        omega (
          arith,
          high_eq (T_alike S shut (λ J b m e. refl) {free = free} (λ b m e. refl) (mix free L (highs n top T free L)) (after k)
              (λ b m e. merge_eq (free b) top (L b) (turns n top T free k b) (highs n top T free L b) (highs_of k b) (floors t b m e) (λ g. high_eq (highs_at t b m e))) c l r),
          turns_capped k c l f,
          high_eq (t.turned c l r),
          cond_true (L c).high top f,
        )

    -- half two over the high ends of H
    next_floor : {k : ℕ} {H : Assign} → Topped n top T free reached k H → Alike n reached (lows n top T free H) (turns n top T free (suc k))
    unfolding turns iter turn
    next_floor {k} {H} t = lows_alike S shut (λ I b m e. refl) (λ b m e. refl) H (highs_of k) t.topped

    pub turned_by : {k : ℕ} {H M : Assign} → Topped n top T free reached k H → ((c : ℕ) → c < n → reached c ≡ true → floor top free M c ≡ lows n top T free H c)
        → Turned n top T free reached (suc k) M
    turned_by t h = record { turned = λ c l r. h c l r ∙ next_floor t c l r }

    -- the same high ends, the same floor
    pub lows_same : (H G : Assign) → ((c : ℕ) → c < n → reached c ≡ true → free c ≡ false → (H c).high ≡ (G c).high) → Alike n reached (lows n top T free H) (lows n top T free G)
    lows_same H G h = lows_alike S shut (λ I b m e. refl) (λ b m e. refl) H G h

    -- both ends of a round are a start for the next floor
    module _ {k : ℕ} {I : Assign} (t : Turned n top T free reached k I) (h : Topped n top T free reached k I) where
      pub floor_first : (c : ℕ) → c < n → reached c ≡ true → Under (floor top free I c) (lows n top T free I c)
      floor_first c l r = under_trans (under_eq (t.turned c l r)) (under_trans (turns_grow O free k c l) (under_eq (sym (next_floor h c l r))))

      high_at : (b : ℕ) → b < n → reached b ≡ true → (I b).high ≡ (after k b).high
      high_at b m e =
          by_bool (free b) (λ f. sym (cond_true (I b).high top f) ∙ high_eq (t.turned b m e) ∙ sym (cond_true (turns n top T free k b).high (highs_of k b).high f))
          (λ f. h.topped b m e f ∙ sym (cond_false (turns n top T free k b).high (highs_of k b).high f))

      pub lows_known : ((c : ℕ) → c < n → reached c ≡ false → (I c).low ≡ 0) → (c : ℕ) → c < n → (I c).low ≤ (lows n top T nobody I c).low
      lows_known z c l =
          by_bool (reached c)
          (λ r. omega (
            arith,
            low_eq (t.turned c l r),
            turns_below k c l,
            low_eq (lows_alike S shut (λ J b m e. refl) {free = nobody} (λ b m e. refl) I (after k) (λ b m e f. high_at b m e) c l r),
          ))
          (λ r. omega (arith, z c l r))

    -- where the floor stays, both halves are the closed reading
    pub rounds_end : {k : ℕ} {I : Assign} → Turned n top T free reached k I → Topped n top T free reached k I → Turned n top T free reached (suc k) I
        → (c : ℕ) → c < n → reached c ≡ true → I c ≡ closed n top T free c
    rounds_end {k} {I} t h t' c l r = sym (merge_same (free c) (I c)) ∙ turned_closed S shut free {L = I} {H = I} {M = I} t h t' (λ b m e. refl) c l r
