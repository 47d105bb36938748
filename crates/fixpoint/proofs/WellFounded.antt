-- The closed reading exists, is unique, lies above the plain reading, and is not crossed. Assumes nothing.
use mathlib.Core.Path.{◌≡◌, sym, ◌∙◌, subst}
use mathlib.Core.Bool.{Bool}
use Prim.Native.Nat.{ℕ, zero, suc, ◌+◌, ◌*◌, ◌≤◌, ◌<◌}
use native.Mathlib.Omega.{arith}
use Rattle.fixpoint.specs.Interval.{Interval, Within, Ordered, Assign}
use Rattle.fixpoint.specs.KnowledgeOrder.{Under, certainly_false, join, bottom}
use Rattle.fixpoint.specs.System.{Agrees}
use Rattle.fixpoint.specs.LeastFixpoint.{Operator, IsLeast, iter, lfp}
use Rattle.fixpoint.specs.Support.{IsSupport, support, close}
use Rattle.fixpoint.specs.WellFounded.{Closes, IsClosedReading, closed, stage}
use Rattle.fixpoint.proofs.KnowledgeOrder.{pair_eq, under_antisym, under_eq}
use Rattle.fixpoint.proofs.LeastFixpoint.{ext, iter_within, iter_grows, iter_later, iter_under, lfp_within, lfp_fixed, lfp_under}
use Rattle.fixpoint.proofs.Support.{only_high, support_unique, support_within, support_borne, support_is, support_mono}

join_right : (I J K : Assign) (c : ℕ) → J c ≡ K c → join I J c ≡ join I K c
join_right I J K c e = rw e

module _ {n top : ℕ} {T : Assign → ℕ → Interval} (O : Operator n top T) (free : ℕ → Bool) where
  abbrev In : Assign → Type 0
  In I = (c : ℕ) → c < n → Within top (I c)

  pub close_operator : Operator n top (close n top T free)
  unfolding close
  close_operator =
      record {
        mono = λ I J h. O.mono (join I (support n top T free I)) (join J (support n top T free J)) (λ b m. omega (arith, h b m, support_mono O free I J h b m));
        bounded = λ I h. O.bounded (join I (support n top T free I)) (λ b m. omega (arith, h b m, support_within O free I h b m));
      }

  -- T makes of I and any support of I what it makes of I and the computed one
  by_support : (I J : Assign) → In I → IsSupport n top T free I J → (c : ℕ) → c < n → close n top T free I c ≡ T (join I J) c
  unfolding close
  by_support I J w s = ext O (join I (support n top T free I)) (join I J) (λ b m. join_right I (support n top T free I) J b (support_unique (support_is O free I w) s b m))

  -- an assignment closes exactly where it equals the computed T at itself joined with its computed support
  pub closing : (I : Assign) → In I → ((c : ℕ) → c < n → I c ≡ close n top T free I c) → Closes n top T free I
  unfolding close
  closing I w e = record { within = w; its_support = support n top T free I; is_support = support_is O free I w; equal = e }

  pub closes_at : (I : Assign) → Closes n top T free I → (c : ℕ) → c < n → I c ≡ close n top T free I c
  closes_at I k c l = k.equal c l ∙ sym (by_support I k.its_support k.within k.is_support c l)

  pub closed_within : In (closed n top T free)
  unfolding closed
  closed_within = lfp_within close_operator

  pub closed_closes : (c : ℕ) → c < n → closed n top T free c ≡ close n top T free (closed n top T free) c
  unfolding closed
  closed_closes = lfp_fixed close_operator

  pub closed_reading : IsClosedReading n top T free (closed n top T free)
  unfolding closed
  closed_reading =
      record {
        closes = closing (closed n top T free) closed_within closed_closes;
        least = λ I k. lfp_under close_operator I k.within (λ c l. under_eq (sym (closes_at I k c l)));
      }

  -- In the closed reading the support adds nothing: what is not free has the support's high end already, and of what is free the support tells nothing.
  adds_nothing : (c : ℕ) → c < n → join (closed n top T free) (support n top T free (closed n top T free)) c ≡ closed n top T free c
  adds_nothing c l =
      let bears : (closed n top T free c).high ≤ (support n top T free (closed n top T free) c).high =
      subst (λ (p : Interval). p.high ≤ (support n top T free (closed n top T free) c).high) (sym (closed_closes c l)) (support_borne O free (closed n top T free) closed_within c l) in
      let zero-low : Under (support n top T free (closed n top T free) c) certainly_false = only_high (support_is O free (closed n top T free) closed_within).safe c l in
      pair_eq (omega arith) (omega arith)

  -- so the closed reading is a fixed point of T ...
  pub closed_fixed : (c : ℕ) → c < n → closed n top T free c ≡ T (closed n top T free) c
  unfolding close
  closed_fixed c l = closed_closes c l ∙ ext O _ (closed n top T free) adds_nothing c l

  -- ... and knows all that the plain reading knows
  pub plain_under_closed : (P : Assign) → IsLeast n top T P → (c : ℕ) → c < n → Under (P c) (closed n top T free c)
  plain_under_closed P p = p.least (closed n top T free) closed_within closed_fixed

  -- there is one closed reading
  pub closed_unique : {C D : Assign} → IsClosedReading n top T free C → IsClosedReading n top T free D → (c : ℕ) → c < n → C c ≡ D c
  closed_unique {C} {D} p q c l = under_antisym (p.least D q.closes c l) (q.least C p.closes c l)

  -- the rounds towards it, each of which knows more than the one before
  pub stage_within : (k : ℕ) → In (stage n top T free k)
  unfolding stage
  stage_within = iter_within close_operator

  pub stage_grows : (k c : ℕ) → c < n → Under (stage n top T free k c) (stage n top T free (suc k) c)
  unfolding stage
  stage_grows = iter_grows close_operator

  pub stage_under : (k c : ℕ) → c < n → Under (stage n top T free k c) (closed n top T free c)
  unfolding stage closed
  stage_under = iter_under close_operator (lfp n top (close n top T free)) (lfp_within close_operator) (λ c l. under_eq (sym (lfp_fixed close_operator c l)))

  stage_later : (m k : ℕ) → m ≤ k → (c : ℕ) → c < n → Under (stage n top T free m c) (stage n top T free k c)
  unfolding stage
  stage_later = iter_later close_operator

  -- Nothing is crossed. The next round is T at round k and its support, joined, so that join must not be crossed:
  -- by `Agrees`, no low end of a round up to k passes the support of round k.
  module _ (G : Agrees n T) where
    -- the support of a round is no lower than the high ends of the next
    next_high : (k c : ℕ) → c < n → (stage n top T free (suc k) c).high ≤ (support n top T free (stage n top T free k) c).high
    unfolding stage iter
    next_high k = support_borne O free (iter top (close n top T free) k) (iter_within close_operator k)

    no_low : (k c : ℕ) → c < n → (support n top T free (stage n top T free k) c).low ≤ 0
    no_low k c l = (only_high (support_is O free (stage n top T free k) (stage_within k)).safe c l).lows

    low_supported : (k : ℕ) → ((c : ℕ) → c < n → Ordered (stage n top T free k c)) → (m : ℕ) → m ≤ k
        → (c : ℕ) → c < n → (stage n top T free m c).low ≤ (support n top T free (stage n top T free k) c).high
    unfolding stage iter bottom close
    low_supported k o zero h c l = omega arith
    low_supported k o (suc m) h c l =
        omega (
          arith,
          next_high k c l,
          G.agrees (join (stage n top T free m) (support n top T free (stage n top T free m))) (join (stage n top T free k) (support n top T free (stage n top T free k)))
              (λ b i. omega (arith, o b i, stage_later m k (omega arith) b i, low_supported k o m (omega arith) b i, no_low m b i))
              (λ b i. omega (arith, o b i, stage_later m k (omega arith) b i, stage_later (suc m) k h b i, next_high m b i, no_low k b i)) c l,
        )

    join_ordered : (k : ℕ) → ((c : ℕ) → c < n → Ordered (stage n top T free k c)) → (b : ℕ) → b < n
        → Ordered (join (stage n top T free k) (support n top T free (stage n top T free k)) b)
    join_ordered k o b i = omega (arith, o b i, low_supported k o k (omega arith) b i, no_low k b i)

    pub stage_ordered : (k c : ℕ) → c < n → Ordered (stage n top T free k c)
    unfolding stage iter bottom close
    stage_ordered zero c l = omega arith
    stage_ordered (suc k) c l = G.agrees _ _ (join_ordered k (stage_ordered k)) (join_ordered k (stage_ordered k)) c l

    pub closed_ordered : (c : ℕ) → c < n → Ordered (closed n top T free c)
    unfolding closed lfp stage
    closed_ordered = stage_ordered (n * (top + top))

    pub reading_ordered : {C : Assign} → IsClosedReading n top T free C → (c : ℕ) → c < n → Ordered (C c)
    reading_ordered p c l = subst Ordered (closed_unique closed_reading p c l) (closed_ordered c l)
