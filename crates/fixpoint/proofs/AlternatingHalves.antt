-- The two halves of a round of the alternating fixed point: each exists, is unique, and falls as the other rises.
-- Assumes nothing.
use mathlib.Core.Path.{◌≡◌, sym, ◌∙◌, ap}
use mathlib.Core.Bool.{Bool, true, false, cond}
use Prim.Native.Nat.{ℕ, ◌≤◌, ◌<◌}
use native.Mathlib.Nat.{le_refl}
use native.Mathlib.Omega.{arith}
use Rattle.fixpoint.specs.Interval.{Interval, Within, Ordered, Assign}
use Rattle.fixpoint.specs.KnowledgeOrder.{Under, join, unknown}
use Rattle.fixpoint.specs.LeastFixpoint.{Operator}
use Rattle.fixpoint.specs.Support.{Safe, close}
use Rattle.fixpoint.specs.AlternatingFixpoint.{merge, mix, floor, clip, IsHighs, IsLows, highs, lift, lows, turn}
use Rattle.fixpoint.proofs.Cond.{cond_true, cond_false, cond_most, cond_least}
use Rattle.fixpoint.proofs.KnowledgeOrder.{under_refl, under_trans, under_antisym, under_eq}
use Rattle.fixpoint.proofs.Merge.{merge_floor, merge_in, floor_in, merge_under, floor_mono, clip_in, clip_mono, clip_under, clip_within, merge_join, merge_ceiling}
use Rattle.fixpoint.proofs.LeastFixpoint.{ext, lfp_within, lfp_fixed, lfp_under}
use Rattle.fixpoint.proofs.Support.{only_high, safe_by, support_within, support_fixed, support_free, support_is, support_mono}

-- high ends as a safe assignment holds them: no low end, and nothing of the free conditions
abbrev pub ceiling : ℕ → (ℕ → Bool) → Assign → Assign
ceiling top free H c = record { low = 0; high = cond (free c) top (H c).high }

module _ {n top : ℕ} {T : Assign → ℕ → Interval} (O : Operator n top T) (free : ℕ → Bool) where
  -- the ends that belong to a half are grades
  abbrev pub LowIn : Assign → Type 0
  LowIn L = (c : ℕ) → c < n → Within top (floor top free L c)

  abbrev pub HighIn : Assign → Type 0
  HighIn H = (c : ℕ) → c < n → free c ≡ false → (H c).high ≤ top

  -- Half two, the floor: the low ends, and the high ends of the free conditions.
  pub lift_operator : (H : Assign) → Operator n top (lift top T free H)
  unfolding lift
  lift_operator H =
      record {
        mono = λ X Y h c l.
            floor_mono (free c) top (clip_mono top (O.mono (mix free X H) (mix free Y H) (λ b m. merge_under (free b) top (X b) (Y b) (H b) (H b) (floor_mono (free b) top (h b m)) (λ e. le_refl (H b).high)) c l));
        bounded = λ X h c l. clip_in (free c) top (T (mix free X H) c);
      }

  pub lows_within : (H : Assign) (c : ℕ) → c < n → Within top (lows n top T free H c)
  unfolding lows
  lows_within H = lfp_within (lift_operator H)

  lows_lift : (H : Assign) (c : ℕ) → c < n → lows n top T free H c ≡ lift top T free H (lows n top T free H) c
  unfolding lows
  lows_lift H = lfp_fixed (lift_operator H)

  -- there is nothing in it but the floor
  pub lows_floor : (H : Assign) (c : ℕ) → c < n → floor top free (lows n top T free H) c ≡ lows n top T free H c
  unfolding lift
  lows_floor H c l =
      ap (λ (p : Interval). merge (free c) p (unknown top)) (lows_lift H c l)
      ∙ merge_floor (free c) top (clip top (T (mix free (lows n top T free H) H) c)) (unknown top) ∙ sym (lows_lift H c l)

  -- so it is not crossed at a condition that is not free
  pub lows_ordered : (H : Assign) (c : ℕ) → c < n → free c ≡ false → Ordered (lows n top T free H c)
  lows_ordered H c l e = omega (arith, lows_within H c l, ap (λ (p : Interval). p.high) (lows_floor H c l), cond_false (lows n top T free H c).high top e)

  -- whatever T does not raise over the high ends of H is above the least floor
  pub lows_least : (H K : Assign) → LowIn K → ((c : ℕ) → c < n → Under (floor top free (T (mix free K H)) c) (floor top free K c)) → (c : ℕ)
      → c < n → Under (lows n top T free H c) (floor top free K c)
  unfolding lows lift
  lows_least H K w u =
      lfp_under (lift_operator H) (floor top free K) w
      (λ c l. clip_under (free c) (T (mix free (floor top free K) H) c) (K c) (w c l)
      (under_trans (floor_mono (free c) top (under_eq (ext O (mix free (floor top free K) H) (mix free K H) (λ b m. merge_floor (free b) top (K b) (H b)) c l))) (u c l)))

  pub lows_are : (H : Assign) → HighIn H → IsLows n top T free H (lows n top T free H)
  lows_are H w =
      record {
        in_top = λ c l. floor_in (free c) (lows_within H c l);
        fixed = λ c l. lows_floor H c l ∙ lows_lift H c l ∙ at c l;
        least = λ K k f c l. under_trans (under_eq (lows_floor H c l)) (lows_least H K k (λ b m. under_eq (sym (f b m))) c l);
      }
    where
      at : (c : ℕ) → c < n → lift top T free H (lows n top T free H) c ≡ floor top free (T (mix free (lows n top T free H) H)) c
      at c l =
          unfold lift in ap (λ (p : Interval). merge (free c) p (unknown top))
          (clip_within (O.bounded (mix free (lows n top T free H) H) (λ b m. merge_in (free b) (lows n top T free H b) (H b) (floor_in (free b) (lows_within H b m)) (w b m)) c l))

  pub lows_unique : {H L M : Assign} → IsLows n top T free H L → IsLows n top T free H M → (c : ℕ) → c < n
      → floor top free L c ≡ floor top free M c
  lows_unique {L = L} {M = M} p q c l = under_antisym (p.least M q.in_top q.fixed c l) (q.least L p.in_top p.fixed c l)

  pub lift_anti : (X H G : Assign) → ((b : ℕ) → b < n → free b ≡ false → (H b).high ≤ (G b).high) → (c : ℕ) → c < n
      → Under (lift top T free G X c) (lift top T free H X c)
  unfolding lift
  lift_anti X H G h c l =
      floor_mono (free c) top (clip_mono top (O.mono (mix free X G) (mix free X H) (λ b m. merge_under (free b) top (X b) (X b) (G b) (H b) (under_refl (floor top free X b)) (h b m)) c l))

  -- higher high ends, a lower floor
  pub lows_anti : (H G : Assign) → ((b : ℕ) → b < n → free b ≡ false → (H b).high ≤ (G b).high) → (c : ℕ) → c < n
      → Under (lows n top T free G c) (lows n top T free H c)
  unfolding lows
  lows_anti H G h =
      lfp_under (lift_operator G) (lows n top T free H) (lfp_within (lift_operator H))
      (λ c l. under_trans (lift_anti (lows n top T free H) H G h c l) (under_eq (sym (lfp_fixed (lift_operator H) c l))))

  -- the high ends of H bear themselves out over the floor of L, and so over whatever is above it
  pub ceiling_safe : (L H I : Assign) → HighIn H → ((c : ℕ) → c < n → free c ≡ false → (T (mix free L H) c).high ≤ (H c).high)
      → ((c : ℕ) → c < n → Within top (I c))
      → ((c : ℕ) → c < n → Under (mix free L H c) (join I (ceiling top free H) c)) → Safe n top T free I (ceiling top free H)
  ceiling_safe L H I v u w h =
      safe_by (λ c l. record { low_in = omega arith; high_in = cond_most (free c) (λ e. le_refl top) (v c l) }) (λ c l. omega arith) (λ c l e. cond_true top (H c).high e)
      (λ c l. record {
        lows = omega arith;
        highs =
            cond_least (free c) (λ e. (O.bounded (join I (ceiling top free H)) (λ b m. omega (arith, w b m)) c l).high_in)
            (λ e. omega (arith, u c l e, O.mono (mix free L H) (join I (ceiling top free H)) h c l));
      })

  -- Half one, the high ends of the conditions that are not free.
  pub highs_least : (L K : Assign) → LowIn L → HighIn K → ((c : ℕ) → c < n → free c ≡ false → (T (mix free L K) c).high ≤ (K c).high)
      → (c : ℕ) → c < n → free c ≡ false → (highs n top T free L c).high ≤ (K c).high
  unfolding highs
  highs_least L K w v u c l e =
      omega (
        arith,
        ((support_is O free (floor top free L) w).greatest (ceiling top free K)
            (ceiling_safe L K (floor top free L) v u w (λ b m. merge_ceiling (free b) top (L b) (K b) (floor top free L b) (under_eq (sym (merge_floor (free b) top (L b) (unknown top)))))) c l).highs,
        cond_false top (K c).high e,
      )

  pub highs_within : (L : Assign) → LowIn L → (c : ℕ) → c < n → Within top (highs n top T free L c)
  unfolding highs
  highs_within L w = support_within O free (floor top free L) w

  pub highs_no_low : (L : Assign) → LowIn L → (c : ℕ) → c < n → (highs n top T free L c).low ≤ 0
  unfolding highs
  highs_no_low L w c l = (only_high (support_is O free (floor top free L) w).safe c l).lows

  highs_fixed : (L : Assign) → LowIn L → (c : ℕ) → c < n → free c ≡ false
      → (highs n top T free L c).high ≡ (T (join (floor top free L) (highs n top T free L)) c).high
  unfolding highs close
  highs_fixed L w = support_fixed O free (floor top free L) w

  highs_free : (L : Assign) → LowIn L → (c : ℕ) → c < n → free c ≡ true → (highs n top T free L c).high ≡ top
  unfolding highs
  highs_free L w = support_free O free (floor top free L) w

  pub highs_are : (L : Assign) → LowIn L → IsHighs n top T free L (highs n top T free L)
  highs_are L w =
      record {
        in_top = λ c l e. (highs_within L w c l).high_in;
        fixed = λ c l e. highs_fixed L w c l e ∙ ap (λ (p : Interval). p.high) (ext O (join (floor top free L) (highs n top T free L)) (mix free L (highs n top T free L)) same c l);
        least = λ K k f. highs_least L K w k (λ c l e. omega (arith, f c l e));
      }
    where
      same : (b : ℕ) → b < n → join (floor top free L) (highs n top T free L) b ≡ mix free L (highs n top T free L) b
      same b m = merge_join (free b) (L b) (unknown top) (highs n top T free L b) (w b m) (highs_no_low L w b m) (highs_free L w b m) (λ e. (highs_within L w b m).high_in)

  pub highs_unique : {L H G : Assign} → IsHighs n top T free L H → IsHighs n top T free L G → (c : ℕ) → c < n → free c ≡ false
      → (H c).high ≡ (G c).high
  highs_unique {H = H} {G = G} p q c l e = omega (arith, p.least G q.in_top q.fixed c l e, q.least H p.in_top p.fixed c l e)

  -- a higher floor, lower high ends
  pub highs_anti : (L M : Assign) → ((b : ℕ) → b < n → Under (floor top free L b) (floor top free M b)) → (c : ℕ) → c < n
      → (highs n top T free M c).high ≤ (highs n top T free L c).high
  unfolding highs
  highs_anti L M h c l = (support_mono O free (floor top free L) (floor top free M) h c l).highs

  -- a round knows more where more was known
  pub turn_operator : Operator n top (turn n top T free)
  unfolding turn
  turn_operator =
      record {
        mono = λ L M h. lows_anti (highs n top T free M) (highs n top T free L) (λ b m e. highs_anti L M (λ a i. floor_mono (free a) top (h a i)) b m);
        bounded = λ L h. lows_within (highs n top T free L);
      }
