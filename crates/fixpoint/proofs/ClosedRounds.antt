-- The rounds of the closed reading: what each holds, how many there are, and when the support need not be computed anew.
-- Assumes nothing.
use mathlib.Core.Path.{◌≡◌, refl, sym, ◌∙◌, ap}
use mathlib.Core.Bool.{Bool, true, false}
use Prim.Native.Nat.{ℕ, zero, suc, ◌*◌, ◌≤◌, ◌<◌, min, max}
use native.Mathlib.Omega.{arith}
use Rattle.fixpoint.specs.Interval.{Interval, Within, Assign}
use Rattle.fixpoint.specs.KnowledgeOrder.{Alike, bottom, join}
use Rattle.fixpoint.specs.System.{System, Agrees}
use Rattle.fixpoint.specs.LeastFixpoint.{Operator, iter}
use Rattle.fixpoint.specs.Sum.{count}
use Rattle.fixpoint.specs.ChaoticIteration.{DependencyClosed}
use Rattle.fixpoint.specs.Support.{support, close}
use Rattle.fixpoint.specs.WellFounded.{closed, stage}
use Rattle.fixpoint.specs.AlternatingFixpoint.{mix, floor, highs}
use Rattle.fixpoint.specs.Reachable.{IsCount, HighLocal, Unseen}
use Rattle.fixpoint.proofs.KnowledgeOrder.{width, width_le, width_eq}
use Rattle.fixpoint.proofs.Merge.{merge_same, floor_in, merge_eq, merge_join, floor_under, floor_mono}
use Rattle.fixpoint.proofs.LeastFixpoint.{ext, iter_within}
use Rattle.fixpoint.proofs.PlainReading.{operator}
use Rattle.fixpoint.proofs.Stationary.{portion_top, still_lfp, in_bound, still_by}
use Rattle.fixpoint.proofs.Support.{only_high, support_within, support_fixed, support_free, support_is, support_mono}
use Rattle.fixpoint.proofs.WellFounded.{close_operator, stage_within, stage_grows, stage_ordered}
use Rattle.fixpoint.proofs.AlternatingHalves.{LowIn, highs_are, highs_least, highs_anti}
use Rattle.fixpoint.proofs.Reachable.{T_alike, close_alike, highs_seen}
use Rattle.fixpoint.proofs.RoundCount.{count_exists}

module _ {n top : ℕ} {T : Assign → ℕ → Interval} (O : Operator n top T) (free : ℕ → Bool) where
  stage_low : (k : ℕ) → LowIn O free (stage n top T free k)
  stage_low k c l = floor_in (free c) (stage_within O free k c l)

  -- where the support is no higher than I, joining the two is mixing them
  support_mix : (I : Assign) (w : (c : ℕ) → c < n → Within top (I c))
      → ((c : ℕ) → c < n → free c ≡ false → (support n top T free I c).high ≤ (I c).high)
      → (b : ℕ) → b < n → join I (support n top T free I) b ≡ mix free I (support n top T free I) b
  support_mix I w h b m =
      ap (λ (x : ℕ). record { low = max (I b).low (support n top T free I b).low; high = min x (support n top T free I b).high }) (sym (ap (λ (p : Interval). p.high) (merge_same (free b) (I b))))
      ∙ merge_join (free b) (I b) (I b) (support n top T free I b) (floor_in (free b) (w b m)) (only_high (support_is O free I w).safe b m).lows (support_free O free I w b m) (h b m)

  -- an assignment that is no lower than its floor allows has the support that its floor has
  support_highs : (I : Assign) → ((c : ℕ) → c < n → Within top (I c))
      → ((c : ℕ) → c < n → free c ≡ false → (highs n top T free I c).high ≤ (I c).high)
      → (c : ℕ) → c < n → free c ≡ false → (support n top T free I c).high ≡ (highs n top T free I c).high
  support_highs I w h c l e = omega (arith, down c l, up c l e)
    where
      down : (c : ℕ) → c < n → (support n top T free I c).high ≤ (highs n top T free I c).high
      down c l = unfold highs in (support_mono O free (floor top free I) I (λ b m. floor_under (free b) (w b m).high_in) c l).highs

      fix : (c : ℕ) → c < n → free c ≡ false → (support n top T free I c).high ≡ (T (join I (support n top T free I)) c).high
      fix c l = unfold close in support_fixed O free I w c l

      same : (b : ℕ) → b < n → join I (support n top T free I) b ≡ mix free I (support n top T free I) b
      same b m = support_mix I w (λ a i d. omega (arith, down a i, h a i d)) b m

      up : (c : ℕ) → c < n → free c ≡ false → (highs n top T free I c).high ≤ (support n top T free I c).high
      up =
          highs_least O free I (support n top T free I) (λ b m. floor_in (free b) (w b m)) (λ b m d. (support_within O free I w b m).high_in)
          (λ b m d. omega (arith, fix b m d, ap (λ (p : Interval). p.high) (ext O (join I (support n top T free I)) (mix free I (support n top T free I)) same b m)))

  -- the high ends of a round are the support of the one before
  stage_high' : (k c : ℕ) → c < n → free c ≡ false
      → (support n top T free (stage n top T free k) c).high ≡ (stage n top T free (suc k) c).high
  unfolding stage iter
  stage_high' k = support_fixed O free (iter top (close n top T free) k) (iter_within (close_operator O free) k)

  -- and so no lower than the floor of the round allows
  lower : (k c : ℕ) → c < n → free c ≡ false → (highs n top T free (stage n top T free k) c).high ≤ (stage n top T free k c).high
  lower zero c l e = begin c l e
    where
      begin : (c : ℕ) → c < n → free c ≡ false → (highs n top T free (stage n top T free 0) c).high ≤ (stage n top T free 0 c).high
      begin c l e = unfold stage iter bottom in (highs_are O free (stage n top T free 0) (stage_low 0)).in_top c l e
  lower (suc k) c l e =
      omega (
        arith,
        highs_anti O free (stage n top T free k) (stage n top T free (suc k)) (λ b m. floor_mono (free b) top (stage_grows O free k b m)) c l,
        support_highs (stage n top T free k) (stage_within O free k) (lower k) c l e,
        stage_high' k c l e,
      )

  -- the support of a round, and so the high ends of the next, come from its floor alone
  pub stage_support : (k c : ℕ) → c < n → free c ≡ false
      → (support n top T free (stage n top T free k) c).high ≡ (highs n top T free (stage n top T free k) c).high
  stage_support k = support_highs (stage n top T free k) (stage_within O free k) (lower k)

  pub stage_high : (k c : ℕ) → c < n → free c ≡ false
      → (stage n top T free (suc k) c).high ≡ (highs n top T free (stage n top T free k) c).high
  stage_high k c l e = sym (stage_high' k c l e) ∙ stage_support k c l e

  -- the next round is T at the floor of this one and the high ends of the next
  pub stage_next : (k c : ℕ) → c < n → stage n top T free (suc k) c ≡ T (mix free (stage n top T free k) (stage n top T free (suc k))) c
  stage_next k c l = at c l ∙ ext O (join I (support n top T free I)) (mix free I (stage n top T free (suc k))) same c l
    where
      I : Assign
      I = stage n top T free k

      at : (c : ℕ) → c < n → stage n top T free (suc k) c ≡ T (join I (support n top T free I)) c
      at c l = unfold stage iter close in refl

      same : (b : ℕ) → b < n → join I (support n top T free I) b ≡ mix free I (stage n top T free (suc k)) b
      same b m =
          support_mix I (stage_within O free k) (λ a i d. omega (arith, stage_high' k a i d, stage_grows O free k a i)) b m
          ∙ merge_eq (free b) top (I b) (I b) (support n top T free I b) (stage n top T free (suc k) b) refl (stage_high' k b m)

-- the rounds on what is reached
module _ {n top : ℕ} {T : Assign → ℕ → Interval} {names : ℕ → ℕ → Bool} (S : System n top T names)
    {reached : ℕ → Bool} (shut : DependencyClosed n names reached) (free : ℕ → Bool) where
  abbrev O : Operator n top T
  O = operator S

  close_on : (I J : Assign) → Alike n reached I J → Alike n reached (close n top T free I) (close n top T free J)
  close_on = close_alike S shut (λ I c l r. refl) (λ c l r. refl)

  -- a round that the next one equals is the closed reading
  pub stage_closed : (k : ℕ) → Alike n reached (stage n top T free k) (stage n top T free (suc k))
      → Alike n reached (stage n top T free k) (closed n top T free)
  unfolding stage closed
  stage_closed k h = still_lfp top (close n top T free) close_on (close_operator O free) k h

  pub count_closed : {k : ℕ} → IsCount n top (close n top T free) reached k → Alike n reached (stage n top T free k) (closed n top T free)
  unfolding stage
  count_closed {k} i = stage_closed k i.still

  module _ (G : Agrees n T) where
    -- as long as every round was changed by the next, there were at most R * top
    pub stage_bound : (k : ℕ) → ((j : ℕ) → j < k → ¬ Alike n reached (stage n top T free j) (stage n top T free (suc j)))
        → k ≤ count n reached * top
    unfolding stage
    stage_bound k h =
        omega (
          arith,
          portion_top n top reached,
          in_bound top (close n top T free) close_on (λ c. width) (λ c. top) (λ k c l r. width_le (stage_grows O free k c l))
              (λ k c l r e. width_eq (stage_grows O free k c l) (stage_ordered O free G (suc k) c l) e) (λ c. omega arith) k h,
        )

    -- and after R * top rounds nothing changes any more
    pub stage_settles : (k : ℕ) → count n reached * top ≤ k → Alike n reached (stage n top T free k) (stage n top T free (suc k))
    unfolding stage
    stage_settles k h =
        still_by top (close n top T free) close_on (λ c. width) (λ c. top) (λ k c l r. width_le (stage_grows O free k c l))
        (λ k c l r e. width_eq (stage_grows O free k c l) (stage_ordered O free G (suc k) c l) e) (λ c. omega arith) k (omega (arith, portion_top n top reached))

    pub count_bound : {k : ℕ} → IsCount n top (close n top T free) reached k → k ≤ count n reached * top
    unfolding stage
    count_bound {k} i = stage_bound k i.moving

    -- there is a count
    pub count_is : (k : ℕ) × IsCount n top (close n top T free) reached k
    unfolding stage
    count_is = count_exists n top (close n top T free) reached (count n reached * top) (stage_settles (count n reached * top) (omega arith))

  -- where nothing changed that the support reads, the high ends stay and the next round is T alone
  module _ {negates : ℕ → ℕ → Bool} (N : HighLocal n T names negates) (k : ℕ) (u : Unseen n names negates free reached (stage n top T free k) (stage n top T free (suc k))) where
    pub stage_same : (c : ℕ) → c < n → reached c ≡ true → free c ≡ false
        → (stage n top T free (suc (suc k)) c).high ≡ (stage n top T free (suc k) c).high
    stage_same c l r e =
        stage_high O free (suc k) c l e ∙ sym (ap (λ (p : Interval). p.high) (highs_seen top N shut free (stage n top T free k) (stage n top T free (suc k)) u c l r)) ∙ sym (stage_high O free k c l e)

    pub stage_support_same : (c : ℕ) → c < n → reached c ≡ true → free c ≡ false
        → (support n top T free (stage n top T free (suc k)) c).high ≡ (support n top T free (stage n top T free k) c).high
    stage_support_same c l r e =
        stage_support O free (suc k) c l e ∙ sym (ap (λ (p : Interval). p.high) (highs_seen top N shut free (stage n top T free k) (stage n top T free (suc k)) u c l r)) ∙ sym (stage_support O free k c l e)

    pub stage_plain : Alike n reached (stage n top T free (suc (suc k))) (T (stage n top T free (suc k)))
    stage_plain c l r =
        stage_next O free (suc k) c l
        ∙ T_alike S shut (λ I c l r. refl) {free = free} (λ c l r. refl) (mix free (stage n top T free (suc k)) (stage n top T free (suc (suc k)))) (stage n top T free (suc k))
        (λ b m e. merge_eq (free b) top _ _ (stage n top T free (suc (suc k)) b) (stage n top T free (suc k) b) refl (stage_same b m e) ∙ merge_same (free b) (stage n top T free (suc k) b)) c l r

  -- a condition is evaluated anew only where an end that it reads changed
  pub stage_unmoved : (k c : ℕ) → c < n
      → ((b : ℕ) → b < n → names c b ≡ true → floor top free (stage n top T free k) b ≡ floor top free (stage n top T free (suc k)) b)
      → ((b : ℕ) → b < n → names c b ≡ true → free b ≡ false → (stage n top T free (suc k) b).high ≡ (stage n top T free (suc (suc k)) b).high)
      → stage n top T free (suc k) c ≡ stage n top T free (suc (suc k)) c
  stage_unmoved k c l h g =
      stage_next O free k c l
      ∙ S.local (mix free (stage n top T free k) (stage n top T free (suc k))) (mix free (stage n top T free (suc k)) (stage n top T free (suc (suc k)))) c l
      (λ b m e. merge_eq (free b) top (stage n top T free k b) (stage n top T free (suc k) b) (stage n top T free (suc k) b) (stage n top T free (suc (suc k)) b) (h b m e) (g b m e))
      ∙ sym (stage_next O free (suc k) c l)
