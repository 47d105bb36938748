-- The assignments of the closed reading, one after the other: where the high ends of the next support start, and what the count is. Assumes nothing.
--
-- The high ends of assignment k + 1 are those of the support of assignment k, but for the free conditions: there they are what T makes of the
-- floor of assignment k and those high ends.
use mathlib.Core.Path.{◌≡◌, refl, sym, ◌∙◌, ap, subst}
use mathlib.Core.Logic.{◌⊎◌, ⊎_elim}
use mathlib.Core.Bool.{Bool, true, false, not, ◌||◌, cond, or-true, true≢false, false≢true}
use Prim.Native.Nat.{ℕ, suc, ◌≤◌, ◌<◌}
use native.Mathlib.Decide.{ℕ_discrete}
use native.Mathlib.Omega.{arith}
use lib.Dec.{eqb}
use borrow.Author.Tests.{eq-eqb, eqb-true}
use Rattle.fixpoint.specs.Interval.{Interval, Within, Assign}
use Rattle.fixpoint.specs.KnowledgeOrder.{Alike, bottom}
use Rattle.fixpoint.specs.System.{System}
use Rattle.fixpoint.specs.LeastFixpoint.{Operator, iter}
use Rattle.fixpoint.specs.ChaoticIteration.{DependencyClosed}
use Rattle.fixpoint.specs.WellFounded.{closed, stage}
use Rattle.fixpoint.specs.AlternatingFixpoint.{mix, floor, highs}
use Rattle.fixpoint.proofs.Cond.{by_bool, cond_true, cond_false, cond_eq}
use Rattle.fixpoint.proofs.KnowledgeOrder.{pair_eq, under_refl}
use Rattle.fixpoint.proofs.Merge.{floor_in, merge_under}
use Rattle.fixpoint.proofs.PlainReading.{operator}
use Rattle.fixpoint.proofs.AlternatingHalves.{highs_least}
use Rattle.fixpoint.proofs.WellFounded.{stage_within, stage_grows, stage_under}
use Rattle.fixpoint.proofs.ClosedRounds.{stage_high, stage_next, stage_closed}
use Rattle.fixpoint.proofs.Reachable.{T_alike, highs_alike}
use Rattle.semantics.specs.Grade.{upper}
use Rattle.semantics.specs.Rounds.{IsRoundCount}
use Rattle.semantics.proofs.RoundsReached.{stage_stages}
use Rattle.settle.specs.Ends.{EndLocal}
use Rattle.stages.specs.Stages.{SameFloor}

pub low_eq : {p q : Interval} → p ≡ q → p.low ≡ q.low
low_eq h = ap (λ (r : Interval). r.low) h

pub high_eq : {p q : Interval} → p ≡ q → p.high ≡ q.high
high_eq h = ap (λ (r : Interval). r.high) h

-- what does not hold on the left holds on the right
or_left : (a b : Bool) → (not a || b) ≡ false → a ≡ true
or_left true b e = refl
or_left false b e = absurd (true≢false e)

or_right : (a b : Bool) → (not a || b) ≡ true → a ≡ true → b ≡ true
or_right true b e h = e
or_right false b e h = absurd (false≢true h)

module _ {n top : ℕ} {T : Assign → ℕ → Interval} {names : ℕ → ℕ → Bool} {reads : Bool → ℕ → ℕ → Bool} (S : System n top T names) (E : EndLocal n T names reads)
    {reached : ℕ → Bool} (shut : DependencyClosed n names reached) (free : ℕ → Bool) where
  abbrev O : Operator n top T
  O = operator S

  abbrev At : ℕ → Assign
  At k = stage n top T free k

  abbrev C : Assign
  C = closed n top T free

  -- the floor of assignment k, and the high ends of the next
  abbrev Between : ℕ → Assign
  Between k = mix free (At k) (At (suc k))

  pub first_at : (c : ℕ) → At 0 c ≡ record { low = 0; high = top }
  first_at c = unfold stage iter bottom in refl

  pub falls : (k c : ℕ) → c < n → (At (suc k) c).high ≤ (At k c).high
  falls k c l = (stage_grows O free k c l).highs

  pub rises : (k c : ℕ) → c < n → (At k c).low ≤ (At (suc k) c).low
  rises k c l = (stage_grows O free k c l).lows

  pub over_closed : (k c : ℕ) → c < n → (C c).high ≤ (At k c).high
  over_closed k c l = (stage_under O free k c l).highs

  pub at_within : (k c : ℕ) → c < n → Within top (At k c)
  at_within k c l = stage_within O free k c l

  same_floor : {I J : Assign} → SameFloor n free reached I J → Alike n reached (floor top free I) (floor top free J)
  same_floor h c l r = pair_eq (h.lows c l r) (cond_eq (free c) (λ e. h.highs c l r e) (λ e. refl))

  -- the support comes from the floor alone
  pub support_is : (k : ℕ) (I : Assign) → SameFloor n free reached I (At k) → (c : ℕ) → c < n → reached c ≡ true → free c ≡ false
      → (highs n top T free I c).high ≡ (At (suc k) c).high
  support_is k I h c l r e =
      high_eq (highs_alike S shut (λ J b m e. refl) (λ b m e. refl) I (At k) (same_floor h) c l r) ∙ sym (stage_high O free k c l e)

  -- T at the floor of assignment k and the high ends of the next is the next assignment
  pub next_is : (k : ℕ) (I : Assign) → Alike n reached I (Between k) → Alike n reached (T I) (At (suc k))
  next_is k I h c l r = T_alike S shut (λ J b m e. refl) {free = free} (λ b m e. refl) I (Between k) h c l r ∙ sym (stage_next O free k c l)

  -- A restart over assignment j + 1: who keeps its high end names plainly nobody whose high end is lowered, negates nobody whose low end moved
  -- since assignment j, and names plainly no free condition whose high end fell since.
  pub record KeepsAt (j : ℕ) (I : Assign) (c : ℕ) : Type 0 where
    pub same : (I c).high ≡ (At (suc j) c).high
    pub plain : (b : ℕ) → b < n → reads false c b ≡ true → (I b).high ≡ (At (suc j) b).high
    pub other : (b : ℕ) → b < n → reads true c b ≡ true → (At j b).low ≡ (At (suc j) b).low
    pub unfallen : (b : ℕ) → b < n → reads false c b ≡ true → free b ≡ true → (At j b).high ≡ (At (suc j) b).high

  -- whoever does not keep its high end has that of the closed reading
  module _ (j : ℕ) (I : Assign) (kept : (c : ℕ) → c < n → reached c ≡ true → free c ≡ false → ((I c).high ≡ (C c).high) ⊎ KeepsAt j I c) where
    -- not reached, or at the closed reading
    down : ℕ → Bool
    down c = not (reached c) || eqb (I c).high (C c).high

    -- the support of assignment j there, that of assignment j + 1 elsewhere
    Z : Assign
    Z c = record { low = 0; high = cond (down c) (At (suc j) c).high (At (suc (suc j)) c).high }

    z_down : (c : ℕ) → down c ≡ true → (Z c).high ≡ (At (suc j) c).high
    unfolding Z
    z_down c q = cond_true _ _ q

    z_up : (c : ℕ) → down c ≡ false → (Z c).high ≡ (At (suc (suc j)) c).high
    unfolding Z
    z_up c q = cond_false _ _ q

    z_under : (c : ℕ) → c < n → (Z c).high ≤ (At (suc j) c).high
    z_under c l = by_bool (down c) (λ q. omega (arith, z_down c q)) (λ q. omega (arith, z_up c q, falls (suc j) c l))

    keeps : (c : ℕ) → c < n → free c ≡ false → down c ≡ false → (reached c ≡ true) × KeepsAt j I c
    unfolding down
    keeps c l e q =
        let r = or_left (reached c) (eqb (I c).high (C c).high) q in
        (r, ⊎_elim (λ z. absurd (true≢false (sym (right c z) ∙ q))) (λ z. z) (kept c l r e))
      where
        right : (c : ℕ) → (I c).high ≡ (C c).high → (not (reached c) || eqb (I c).high (C c).high) ≡ true
        right c z = rw (eq-eqb (I c).high (C c).high z, or-true)

    -- at the closed reading, or not
    at_closed : (c : ℕ) → reached c ≡ true → down c ≡ true → (I c).high ≡ (C c).high
    unfolding down
    at_closed c r q = eqb-true (I c).high (C c).high (or_right (reached c) (eqb (I c).high (C c).high) q r)

    -- what is read plainly stands at the support of assignment j + 1
    z_plain : (c b : ℕ) → c < n → b < n → reached c ≡ true → KeepsAt j I c → reads false c b ≡ true → (Z b).high ≡ (At (suc (suc j)) b).high
    z_plain c b l m r k f =
        by_bool (down b)
        (λ q. omega (arith, z_down b q, at_closed b (shut c b l m r (E.named false c b f)) q, k.plain b m f, over_closed (suc (suc j)) b m, falls (suc j) b m))
        (λ q. z_up b q)

    z_over : (c : ℕ) → c < n → free c ≡ false → (T (mix free (At j) Z) c).high ≤ (Z c).high
    z_over c l e =
        by_bool (down c)
        (λ q. omega (
          arith,
          z_down c q,
          high_eq (stage_next O free j c l),
          (S.mono (Between j) (mix free (At j) Z) (λ b m. merge_under (free b) top (At j b) (At j b) (At (suc j) b) (Z b) (under_refl (floor top free (At j) b)) (λ f. z_under b m)) c l).highs,
        ))
        (λ q. let k = keeps c l e q in omega (
          arith,
          z_up c q,
          high_eq (stage_next O free (suc j) c l),
          E.local_end upper (mix free (At j) Z) (Between (suc j)) c l
              (λ b m f. cond_eq (free b) (λ g. k.1.unfallen b m f g) (λ g. z_plain c b l m k.0 k.1 f))
              (λ b m f. k.1.other b m f),
        ))

    least : (c : ℕ) → c < n → free c ≡ false → (At (suc j) c).high ≤ (Z c).high
    least c l e =
        omega (
          arith,
          stage_high O free j c l e,
          highs_least O free (At j) Z (λ b m. floor_in (free b) (at_within j b m)) (λ b m f. omega (arith, z_under b m, at_within (suc j) b m)) z_over c l e,
        )

    -- so the restart lies at or under the support
    pub restart_known : (c : ℕ) → c < n → reached c ≡ true → free c ≡ false → (I c).high ≤ (At (suc (suc j)) c).high
    restart_known c l r e =
        by_bool (down c) (λ q. omega (arith, at_closed c r q, over_closed (suc (suc j)) c l))
        (λ q. omega (arith, (keeps c l e q).1.same, least c l e, z_up c q))

  abbrev pub Moving : ℕ → Type 0
  Moving k = (j : ℕ) → j < k → ¬ Alike n reached (At j) (At (suc j))

  pub moving_next : {k : ℕ} → Moving k → ¬ Alike n reached (At k) (At (suc k)) → Moving (suc k)
  moving_next {k} h d j l e =
      elim (ℕ_discrete j k) [
        | yes z ↦ d (subst (λ (i : ℕ). Alike n reached (At i) (At (suc i))) z e)
        | no z ↦ h j (omega arith) e
      ]

  -- the floor does not move
  module _ (k : ℕ) (still : SameFloor n free reached (At (suc k)) (At k)) where
    tops_same : (c : ℕ) → c < n → reached c ≡ true → free c ≡ false → (At (suc k) c).high ≡ (At (suc (suc k)) c).high
    tops_same c l r e = sym (support_is k (At (suc k)) still c l r e) ∙ sym (stage_high O free (suc k) c l e)

    next_still : Alike n reached (At (suc k)) (At (suc (suc k)))
    next_still c l r =
        stage_next O free k c l
        ∙ next_is (suc k) (Between k)
        (λ b m e. pair_eq (sym (still.lows b m e)) (cond_eq (free b) (λ f. sym (still.highs b m e f)) (λ f. tops_same b m e f))) c l r

    at_last : Alike n reached (At (suc k)) C
    at_last = stage_closed S shut free (suc k) next_still

    -- then the count is k where no other high end moves, ..
    pub count_here : Moving k → ((c : ℕ) → c < n → reached c ≡ true → free c ≡ false → (At (suc k) c).high ≡ (At k c).high) → IsRoundCount n top T free reached k
    count_here h g =
        record {
          assignment = stage n top T free;
          stages = stage_stages S shut free;
          still = λ c l r. pair_eq (sym (still.lows c l r)) (by_bool (free c) (λ e. sym (still.highs c l r e)) (λ e. sym (g c l r e)));
          moving = h;
        }

    -- .. and k + 1 where one falls to that of the closed reading
    module _ {c : ℕ} (l : c < n) (r : reached c ≡ true) (h : (C c).high < (At k c).high) where
      pub top_moves : ¬ Alike n reached (At k) (At (suc k))
      top_moves e = omega (arith, high_eq (e c l r), high_eq (at_last c l r))

      pub count_after : Moving k → IsRoundCount n top T free reached (suc k)
      count_after g =
          record { assignment = stage n top T free; stages = stage_stages S shut free; still = next_still; moving = moving_next g top_moves }
