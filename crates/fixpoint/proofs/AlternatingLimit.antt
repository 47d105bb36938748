-- Where the alternation ends: two halves, each the least over the other, lie above the closed reading, and neither half of a round passes it.
-- Assumes nothing.
use mathlib.Core.Path.{◌≡◌, refl, sym, ◌∙◌, ap}
use mathlib.Core.Bool.{Bool, false}
use Prim.Native.Nat.{ℕ, ◌≤◌, ◌<◌}
use native.Mathlib.Omega.{arith}
use Rattle.fixpoint.specs.Interval.{Interval, Within, Assign}
use Rattle.fixpoint.specs.KnowledgeOrder.{Under, join}
use Rattle.fixpoint.specs.LeastFixpoint.{Operator}
use Rattle.fixpoint.specs.Support.{IsSupport, support, close}
use Rattle.fixpoint.specs.WellFounded.{Closes, closed}
use Rattle.fixpoint.specs.AlternatingFixpoint.{mix, floor, IsHighs, IsLows}
use Rattle.fixpoint.proofs.Cond.{cond_false}
use Rattle.fixpoint.proofs.KnowledgeOrder.{under_refl, under_trans, under_eq}
use Rattle.fixpoint.proofs.Merge.{merge_same, merge_in, floor_in, merge_under, floor_mono, merge_eq, merge_join, merge_ceiling}
use Rattle.fixpoint.proofs.LeastFixpoint.{ext}
use Rattle.fixpoint.proofs.Support.{only_high, silent, support_within, support_fixed, support_is, support_unique}
use Rattle.fixpoint.proofs.WellFounded.{closed_within, closed_closes, closed_fixed, closed_reading}
use Rattle.fixpoint.proofs.AlternatingHalves.{HighIn, ceiling, ceiling_safe, lows_floor, lows_least, lows_are, lows_unique}

module _ {n top : ℕ} {T : Assign → ℕ → Interval} (O : Operator n top T) (free : ℕ → Bool) where
  -- two halves, each the least over the other, are what T makes of them and their support
  module _ {L H : Assign} (p : IsHighs n top T free L H) (q : IsLows n top T free H L) where
    abbrev S : Assign
    S = support n top T free (mix free L H)

    pub both_in : (c : ℕ) → c < n → Within top (mix free L H c)
    both_in c l = merge_in (free c) (L c) (H c) (q.in_top c l) (p.in_top c l)

    S_is : IsSupport n top T free (mix free L H) S
    S_is = support_is O free (mix free L H) both_in

    S_below : (c : ℕ) → c < n → free c ≡ false → (S c).high ≤ (H c).high
    S_below c l e =
        omega (
          arith,
          (S_is.greatest (ceiling top free H)
              (ceiling_safe O free L H (mix free L H) p.in_top (λ b m d. omega (arith, p.fixed b m d)) both_in (λ b m. omega arith)) c l).highs,
          cond_false top (H c).high e,
        )

    S_fixed : (c : ℕ) → c < n → free c ≡ false → (S c).high ≡ (T (join (mix free L H) S) c).high
    unfolding close
    S_fixed = support_fixed O free (mix free L H) both_in

    S_high : (c : ℕ) → c < n → free c ≡ false → (S c).high ≡ (H c).high
    S_high c l e = omega (arith, S_below c l e, p.least S (λ b m d. (support_within O free (mix free L H) both_in b m).high_in) (λ b m d. S_fixed b m d ∙ same b m) c l e)
      where
        same : (b : ℕ) → b < n → (T (join (mix free L H) S) b).high ≡ (T (mix free L S) b).high
        same b m = ap (λ (r : Interval). r.high) (ext O (join (mix free L H) S) (mix free L S)
            (λ a i. merge_join (free a) (L a) (H a) (S a) (q.in_top a i) (only_high S_is.safe a i).lows (silent S_is.safe a i) (S_below a i)) b m)

    equal_at : (J : Assign) → IsSupport n top T free (mix free L H) J → (c : ℕ) → c < n
        → mix free L H c ≡ T (join (mix free L H) J) c
    equal_at J s c l =
        merge_eq (free c) top (L c) (T (mix free L H) c) (H c) (T (mix free L H) c) (q.fixed c l) (p.fixed c l) ∙ merge_same (free c) (T (mix free L H) c)
        ∙ ext O (mix free L H) (join (mix free L H) J) (λ b m. sym (same b m)) c l
      where
        level : (b : ℕ) → b < n → free b ≡ false → (J b).high ≡ (H b).high
        level b m e = sym (ap (λ (r : Interval). r.high) (support_unique S_is s b m)) ∙ S_high b m e

        same : (b : ℕ) → b < n → join (mix free L H) J b ≡ mix free L H b
        same b m =
            merge_join (free b) (L b) (H b) (J b) (q.in_top b m) (only_high s.safe b m).lows (silent s.safe b m) (λ e. omega (arith, level b m e))
            ∙ merge_eq (free b) top (L b) (L b) (J b) (H b) refl (level b m)

    pub pair_closes : Closes n top T free (mix free L H)
    pair_closes = record { within = both_in; its_support = S; is_support = S_is; equal = equal_at S S_is }

    -- the closed reading is under them
    pub pair_above : (c : ℕ) → c < n → Under (closed n top T free c) (mix free L H c)
    pair_above = (closed_reading O free).least (mix free L H) pair_closes

  -- a floor under that of the closed reading has high ends above its, and the other way round
  abbrev C : Assign
  C = closed n top T free

  C_support : (c : ℕ) → c < n → free c ≡ false → (support n top T free C c).high ≡ (C c).high
  unfolding close
  C_support c l e =
      support_fixed O free C (closed_within O free) c l e
      ∙ sym (ap (λ (r : Interval). r.high) (closed_closes O free c l))

  pub highs_over : {L H : Assign} → IsHighs n top T free L H → ((c : ℕ) → c < n → Under (floor top free L c) (floor top free C c)) → (c : ℕ)
      → c < n → free c ≡ false → (C c).high ≤ (H c).high
  highs_over {L} {H} p h c l e =
      omega (
        arith,
        C_support c l e,
        cond_false top (H c).high e,
        ((support_is O free C (closed_within O free)).greatest (ceiling top free H)
            (ceiling_safe O free L H C p.in_top (λ b m d. omega (arith, p.fixed b m d)) (closed_within O free) (λ b m. merge_ceiling (free b) top (L b) (H b) (C b) (h b m))) c l).highs,
      )

  pub lows_under : {H M : Assign} → HighIn O free H → IsLows n top T free H M → ((c : ℕ) → c < n → free c ≡ false → (C c).high ≤ (H c).high)
      → (c : ℕ) → c < n → Under (floor top free M c) (floor top free C c)
  lows_under {H} {M} w q h c l =
      under_trans (under_eq (lows_unique O free q (lows_are O free H w) c l ∙ lows_floor O free H c l)) (lows_least O free H C (λ b m. floor_in (free b) (closed_within O free b m)) step c l)
    where
      step : (b : ℕ) → b < n → Under (floor top free (T (mix free C H)) b) (floor top free C b)
      step b m =
          floor_mono (free b) top
          (under_trans (O.mono (mix free C H) C (λ a i. under_trans (merge_under (free a) top (C a) (C a) (H a) (C a) (under_refl (floor top free C a)) (h a i)) (under_eq (merge_same (free a) (C a)))) b m) (under_eq (sym (closed_fixed O free b m))))
